use Rattle.std.proofs.Common.{◌≡◌, ℕ, ◌<◌, ◌≤◌, slice_index}
use Rattle.mt_linear.specs.Field.{add_of, mul_of}
use Rattle.mt_linear.specs.Linear.{AllElements}
use Rattle.mt_poly.proofs.lists.add_multiple.Given as goal

abbrev pub invariant-loop-i : goal.invariant-loop-i
invariant-loop-i l = record {
  done : (k : ℕ) → k < l.i → slice_index l.target k ≡ add_of l.order (slice_index l.initial.target k) (mul_of l.order l.factor (slice_index l.source k));
  rest : (k : ℕ) → l.i ≤ k → slice_index l.target k ≡ slice_index l.initial.target k;
  elements : AllElements l.order l.target;
}
