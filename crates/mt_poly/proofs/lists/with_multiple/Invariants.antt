use Rattle.std.proofs.Common.{◌≡◌, ℕ, ◌<◌, length, slice_index}
use Rattle.mt_linear.specs.Field.{add_of, mul_of}
use Rattle.mt_poly.proofs.lists.with_multiple.Given as goal

abbrev pub invariant-loop-i : goal.invariant-loop-i
invariant-loop-i l = record {
  size : length l.sum.items ≡ l.i;
  done : (k : ℕ) → k < l.i → slice_index l.sum.items k ≡ add_of l.order (slice_index l.a k) (mul_of l.order l.factor (slice_index l.b k));
}
