use Rattle.std.proofs.Common.{◌≡◌, ℕ, ◌+◌, ◌^◌, ◌≤◌, length, slice_index}
use Rattle.mt_linear.specs.Field.{number_of}
use Rattle.mt_linear.specs.Linear.{AllElements}
use Rattle.mt_poly.specs.CoprimeLists.{number_by}
use Rattle.mt_poly.proofs.polynomials.counted_up.Given as goal

abbrev pub invariant-loop-i : goal.invariant-loop-i
invariant-loop-i l = record {
  base : l.number ≡ number_of l.fn.order;
  size : length l.digits.items ≡ length l.initial.digits.items;
  carry : number_by (number_of l.fn.order) l.digits.items + number_of l.fn.order ^ l.i ≡ number_by (number_of l.fn.order) l.initial.digits.items + 1;
  rest : (k : ℕ) → l.i ≤ k → slice_index l.digits.items k ≡ slice_index l.initial.digits.items k;
  elements : AllElements l.fn.order l.digits.items;
}
