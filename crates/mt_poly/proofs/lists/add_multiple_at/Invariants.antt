use Rattle.std.proofs.Common.{◌≡◌, ℕ, ◌+◌, ◌<◌, ◌≤◌, slice_index}
use Rattle.mt_linear.specs.Field.{add_of, mul_of}
use Rattle.mt_linear.specs.Linear.{AllElements}
use Rattle.mt_poly.proofs.lists.add_multiple_at.Given as goal

abbrev pub invariant-loop-i : goal.invariant-loop-i
invariant-loop-i l = record {
  before : (k : ℕ) → k < l.place → slice_index l.target k ≡ slice_index l.initial.target k;
  done : (k : ℕ) → k < l.i → slice_index l.target (l.place + k)
      ≡ add_of l.order (slice_index l.initial.target (l.place + k)) (mul_of l.order l.factor (slice_index l.source k));
  rest : (k : ℕ) → l.place + l.i ≤ k → slice_index l.target k ≡ slice_index l.initial.target k;
  elements : AllElements l.order l.target;
}
