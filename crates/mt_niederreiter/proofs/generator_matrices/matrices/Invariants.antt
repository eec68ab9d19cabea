use Rattle.std.proofs.Common.{◌*◌, map}
use Rattle.mt_niederreiter.specs.Rows.{AreRows}
use Rattle.mt_niederreiter.proofs.generator_matrices.matrices.Given as goal

abbrev pub invariant-loop-coordinate : goal.invariant-loop-coordinate
invariant-loop-coordinate l = AreRows l.order l.m (map (λ p. p.coefficients) l.list.items) (l.coordinate * l.m) l.digits.items
