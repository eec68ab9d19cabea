use Rattle.std.proofs.Common.{◌≡◌, ℕ, ◌<◌, ◌/◌, ◌%◌, length, slice_index}
use Rattle.mt_linear.specs.Linear.{AllElements}
use Rattle.mt_system.proofs.formula.make.Given as goal

abbrev pub invariant-loop-place : goal.invariant-loop-place
invariant-loop-place g l = record {
  size : length l.digits.items ≡ l.place;
  elements : AllElements l.sizes.order l.digits.items;
  values : (k : ℕ) → k < l.place → slice_index l.digits.items k
      ≡ g.F.Formula.digit_of l.formula (k / l.columns / l.depth) (k / l.columns % l.depth) (k % l.columns);
}
