-- Systems of a cell with a value that is not over their columns, and whole systems by their digits.
use Rattle.std.proofs.Common.{◌≡◌, ℕ, ◌+◌, ◌*◌, ◌/◌, ◌%◌, ◌<◌, ◌≤◌, inl, inr, length, drop, slice_index, sym, ap, ap₂, ◌∙◌, subst, arith, length-take, get_or-take, get_or-drop}
use Rattle.std.proofs.lemmas.Bool.{cases_lt}
use Rattle.std.proofs.lemmas.Grind.{same_number_lists}
use Rattle.std.proofs.lemmas.List.{get_or_past}
use Rattle.std.proofs.lemmas.Nat.{div_below, mod_below, div-add-mod'}
use Rattle.mt_linear.specs.declared.order.Order.{Order}
use Rattle.mt_linear.specs.Field.{number_of}
use Rattle.mt_linear.specs.Linear.{AllElements}
use Rattle.mt_linear.proofs.FieldLaws.{number_pos}
use Rattle.mt_system.specs.Rows.{Matrices, row_of}
use Rattle.mt_system.specs.Digits.{digit_of, HasDigits}
use Rattle.mt_cells.specs.declared.cells.Cell.{Cell}
use Rattle.mt_derive.specs.Systems.{IsWhole, IsSized, HasValue, Has}

-- a is a system of the cell with value k, which is not over its columns
pub record IsWithin (c : Cell) (a : Matrices) (k : ℕ) : Type 0 where
  pub has : Has c a k
  pub within : k ≤ a.columns

-- its three parts make it
pub from_parts : (c : Cell) (a : Matrices) (k : ℕ) → IsSized c a → HasValue c a k → k ≤ a.columns → IsWithin c a k
from_parts c a k sized value within = record { has = record { sized = sized; value = value }; within = within }

-- the rows of a system are of elements
pub row_elements : (a : Matrices) (i j : ℕ) → AllElements a.order a.digits → AllElements a.order (row_of a i j)
row_elements a i j elements c = elim (cases_lt c a.columns) [
  | inl l ↦ rw (get_or-take a.columns (drop ((i * a.depth + j) * a.columns) a.digits) c 0 l)
      (rw (get_or-drop ((i * a.depth + j) * a.columns) a.digits c 0) (elements ((i * a.depth + j) * a.columns + c)))
  | inr l ↦ rw (get_or_past (row_of a i j) c 0 (omega (arith, length-take {A = ℕ} a.columns))) (number_pos a.order)
]

-- the digits of a whole system are elements
pub digit_in : (p : Matrices) → IsWhole p → (i j c : ℕ) → digit_of p i j c < number_of p.order
digit_in p whole i j c = row_elements p i j whole.elements c

-- ---- a whole system by its digits

-- a digit by its place
digit_at : (a : Matrices) (k : ℕ) → IsWhole a → slice_index a.digits k ≡ digit_of a (k / a.columns / a.depth) (k / a.columns % a.depth) (k % a.columns)
digit_at a k whole =
    sym (get_or-take a.columns (drop ((k / a.columns / a.depth * a.depth + k / a.columns % a.depth) * a.columns) a.digits) (k % a.columns) 0
    (mod_below k a.columns whole.columns_from)
    ∙ get_or-drop ((k / a.columns / a.depth * a.depth + k / a.columns % a.depth) * a.columns) a.digits (k % a.columns) 0
    ∙ ap (slice_index a.digits) (ap (λ n. n * a.columns + k % a.columns) (div-add-mod' (k / a.columns) a.depth) ∙ div-add-mod' k a.columns))

-- two with the digits f
module _ (o : Order) (m s d : ℕ) (f : ℕ → ℕ → ℕ → ℕ) where
  -- the digit at place k
  digit_is : (a : Matrices) (k : ℕ) → IsWhole a → HasDigits a o m s d f → k < s * d * m → slice_index a.digits k ≡ f (k / m / d) (k / m % d) (k % m)
  digit_is a k whole h l =
      digit_at a k whole
      ∙ ap₂ (λ x y. digit_of a (k / x / y) (k / x % y) (k % x)) h.columns h.depth
      ∙ h.digits (k / m / d) (k / m % d) (k % m)
      (div_below (k / m) d s deep (div_below k m (s * d) wide l))
      (mod_below (k / m) d deep) (mod_below k m wide)
    where
      deep : 0 < d
      deep = omega (arith, whole.depth_from, h.depth)

      wide : 0 < m
      wide = omega (arith, whole.columns_from, h.columns)

  size_is : (a : Matrices) → IsWhole a → HasDigits a o m s d f → length a.digits ≡ s * d * m
  size_is a whole h =
      whole.size ∙ ap₂ (λ x y. x * y * a.columns) h.coordinates h.depth ∙ ap (λ x. s * d * x) h.columns

  -- the system by its sizes and digits
  made_of_digits : (a : Matrices) → HasDigits a o m s d f → a ≡ record { order = o; columns = m; coordinates = s; depth = d; digits = a.digits }
  made_of_digits a h =
      ap₂ (λ x y. record { order = x; columns = y; coordinates = a.coordinates; depth = a.depth; digits = a.digits }) h.order h.columns
      ∙ ap₂ (λ x y. record { order = o; columns = m; coordinates = x; depth = y; digits = a.digits }) h.coordinates h.depth

  -- are the same
  pub same_system : (a b : Matrices) → IsWhole a → IsWhole b → HasDigits a o m s d f → HasDigits b o m s d f → a ≡ b
  same_system a b whole also h g =
      made_of_digits a h
      ∙ ap (λ x. record { order = o; columns = m; coordinates = s; depth = d; digits = x }) digits
      ∙ sym (made_of_digits b g)
    where
      digits : a.digits ≡ b.digits
      digits = same_number_lists a.digits b.digits (size_is a whole h ∙ sym (size_is b also g)) (λ k l.
          digit_is a k whole h (subst (λ n. k < n) (size_is a whole h) l)
          ∙ sym (digit_is b k also g (subst (λ n. k < n) (size_is a whole h) l)))
