use Rattle.std.proofs.Common.{◌≡◌, ℕ, ◌%◌, ◌<◌, length, slice_index}
use Rattle.mt_linear.specs.Field.{number_of}
use Rattle.mt_linear.specs.Linear.{AllElements}
use Rattle.mt_gen.specs.Generated.{state_after, word_at}
use Rattle.mt_gen.proofs.systems.drawn_digits.Given as goal

abbrev pub invariant-loop-place : goal.invariant-loop-place
invariant-loop-place l = record {
  size : length l.digits.items ≡ l._place;
  elements : AllElements l.order l.digits.items;
  values : (n : ℕ) → n < l._place → slice_index l.digits.items n ≡ word_at l.fn.stream n % number_of l.order;
  stream : l.stream ≡ state_after l.fn.stream l._place;
}
