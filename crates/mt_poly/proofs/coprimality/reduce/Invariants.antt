use Rattle.std.proofs.Common.{length}
use Rattle.mt_poly.specs.Polynomials.{HaveSameDivisors, IsPolynomial}
use Rattle.mt_poly.proofs.coprimality.reduce.Given as goal

abbrev pub invariant-loop-order : goal.invariant-loop-order
invariant-loop-order l = record {
  same : HaveSameDivisors l.order l.divisor l.initial.rest.items l.rest.items;
  polynomial : IsPolynomial l.order l.rest.items;
}

abbrev pub decreases-loop-order : goal.decreases-loop-order
decreases-loop-order l = length l.rest.items
