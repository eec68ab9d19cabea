use Rattle.std.proofs.Common.{◌≡◌, ◌-◌, ◌<◌, slice_index}
use Rattle.mt_linear.specs.Field.{mul_of, number_of}
use Rattle.mt_poly.specs.Polynomials.{sum_to}
use Rattle.mt_poly.proofs.lists.coefficient.Given as goal

abbrev pub invariant-loop-i : goal.invariant-loop-i
invariant-loop-i l = record {
  sum : l.sum ≡ sum_to l.order l.i (λ i. mul_of l.order (slice_index l.a i) (slice_index l.b (l.n - i)));
  element : l.sum < number_of l.order;
}
