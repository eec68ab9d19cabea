use Rattle.std.proofs.Common.{◌≡◌, ℕ, ◌≤◌, length, slice_index, drop}
use Rattle.mt_linear.specs.Field.{add_of}
use Rattle.mt_linear.specs.Linear.{AllElements}
use Rattle.mt_poly.specs.Polynomials.{product_at}
use Rattle.mt_poly.proofs.division.divide.Given as goal

abbrev pub invariant-loop-i : goal.invariant-loop-i
invariant-loop-i l = record {
  within : l.i ≤ length l.a;
  quotient_size : length l.quotient.items ≡ length l.a;
  rest_size : length l.rest.items ≡ l.degree;
  sum : (n : ℕ) → slice_index (drop l.i l.a) n ≡ add_of l.order (product_at l.order l.b (drop l.i l.quotient.items) n) (slice_index l.rest.items n);
  quotient_in : AllElements l.order l.quotient.items;
  rest_in : AllElements l.order l.rest.items;
}

abbrev pub decreases-loop-i : goal.decreases-loop-i
decreases-loop-i l = l.i
