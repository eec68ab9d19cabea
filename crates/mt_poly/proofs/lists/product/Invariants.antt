use Rattle.std.proofs.Common.{◌≡◌, ℕ, ◌<◌, length, slice_index}
use Rattle.mt_poly.specs.Polynomials.{product_at}
use Rattle.mt_poly.proofs.lists.product.Given as goal

abbrev pub invariant-loop-n : goal.invariant-loop-n
invariant-loop-n l = record {
  size : length l.product.items ≡ l.n;
  done : (k : ℕ) → k < l.n → slice_index l.product.items k ≡ product_at l.order l.a l.b k;
}
