use Rattle.std.proofs.Common.{◌≡◌, ◌+◌, ◌*◌, map}
use Rattle.mt_poly.specs.Polynomials.{IsPower}
use Rattle.mt_niederreiter.specs.Expansions.{degree_of}
use Rattle.mt_niederreiter.specs.Rows.{AreRows, times_over}
use Rattle.mt_niederreiter.proofs.rows.push_rows.Given as goal

abbrev pub invariant-loop-row : goal.invariant-loop-row
invariant-loop-row l = record {
  order : l.power.order ≡ l.fn.order;
  power : IsPower l.fn.order l.poly.coefficients (times_over l.row (degree_of l.poly.coefficients)) l.power.coefficients;
  rows : AreRows l.fn.order l.m (map (λ p. p.coefficients) l.list) (l.coordinate * l.m + l.row) l.digits.items;
}
