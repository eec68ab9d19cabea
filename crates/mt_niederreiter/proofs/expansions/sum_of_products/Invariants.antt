use Rattle.std.proofs.Common.{◌≡◌, ◌<◌, slice_index}
use Rattle.mt_linear.specs.Field.{mul_of, number_of}
use Rattle.mt_poly.specs.Polynomials.{sum_to}
use Rattle.mt_niederreiter.proofs.expansions.sum_of_products.Given as goal

abbrev pub invariant-loop-k : goal.invariant-loop-k
invariant-loop-k l = record {
  sum : l.sum ≡ sum_to l.order l.k (λ k. mul_of l.order (slice_index l.a k) (slice_index l.b k));
  element : l.sum < number_of l.order;
}
