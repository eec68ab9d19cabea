use Rattle.std.proofs.Common.{◌≡◌, ◌≢◌, ◌+◌, ◌-◌, ◌*◌, ◌^◌, ◌<◌, length, slice_index}
use Rattle.mt_linear.specs.Field.{number_of}
use Rattle.mt_linear.specs.Linear.{AllElements}
use Rattle.mt_poly.specs.CoprimeLists.{number_by}
use Rattle.mt_poly.proofs.polynomials.digits_of.Given as goal

abbrev pub invariant-loop-rest : goal.invariant-loop-rest
invariant-loop-rest l = record {
  base : l.number ≡ number_of l.fn.order;
  sum : number_by (number_of l.fn.order) l.digits.items + number_of l.fn.order ^ length l.digits.items * l.rest ≡ l.n;
  elements : AllElements l.fn.order l.digits.items;
  lead : l.rest ≡ 0 → 0 < length l.digits.items → slice_index l.digits.items (length l.digits.items - 1) ≢ 0;
}

abbrev pub decreases-loop-rest : goal.decreases-loop-rest
decreases-loop-rest l = l.rest
