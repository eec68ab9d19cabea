-- A quotient of a system loses at most one from the strength.
use Rattle.std.proofs.Common.{◌≡◌, ◌≢◌, ℕ, suc, ◌-◌, ◌%◌, ◌<◌, List, length, slice_index, sym, ap, ◌∙◌, arith, length-take}
use Rattle.mt_linear.specs.declared.order.Order.{Order}
use Rattle.mt_linear.specs.Field.{number_of, inv_of}
use Rattle.mt_linear.specs.Linear.{AllElements}
use Rattle.mt_linear.proofs.FieldLaws.{number_pos, mul_mod_left}
use Rattle.mt_linear.proofs.Abstract.{digit, digit-injective, digit-add, digit-mul, digit-neg, field_of, field_laws}
use Rattle.mt_system.specs.Rows.{Matrices, row_of, Strength}
use Rattle.mt_system.proofs.AbstractStrength.{strength_cong}
use Rattle.mt_system.proofs.StrengthBridge.{table_of, strength_lifted}
use Rattle.mt_system.proofs.Makes.{strength_from_digits}
use Rattle.mt_rules_basic.specs.Rules.{IsPivot, reduced as reduced_digit, modulo_first, remaining_row, IsQuotientKeep, IsQuotientDrop}
use Rattle.mt_rules_basic.proofs.AbstractQuotients.{reduced, kept, dropped, kept_strength, dropped_strength}

-- the inverse of a number is that of its remainder
inv_mod : (o : Order) (a : ℕ) → inv_of o (a % number_of o) ≡ inv_of o a
unfolding inv_of
inv_mod o a = simp mul_mod_left

-- inverses of any numbers, also from the order on
digit-inv : (o : Order) (a : ℕ) → digit o (inv_of o a) ≡ (field_of o).inv (digit o a)
digit-inv o a = ap (digit o) (sym (inv_mod o a))

-- a reduced row's digits are those of the reduced row of elements
digit-reduced : (o : Order) (v : List ℕ) (p : ℕ) (r : List ℕ) (c : ℕ)
    → digit o (reduced_digit o v p r c) ≡ reduced (field_of o) (λ n. digit o (slice_index v n)) p (λ n. digit o (slice_index r n)) c
digit-reduced o v p r c =
    digit-add o _ _
    ∙ ap ((field_of o).add (digit o (slice_index r c)))
    (digit-neg o _ ∙ ap (field_of o).neg
    (digit-mul o _ _ ∙ ap (λ x. (field_of o).mul x (digit o (slice_index v c)))
    (digit-mul o _ _ ∙ ap ((field_of o).mul (digit o (slice_index r p))) (digit-inv o _))))

-- the pivot of a row of elements is not the element zero
pivot_apart : (o : Order) (v : List ℕ) (p : ℕ) → AllElements o v → IsPivot v p → digit o (slice_index v p) ≢ digit o 0
pivot_apart o v p elements pivot e = pivot.not_zero (digit-injective o (slice_index v p) 0 (elements p) (number_pos o) e)

-- a pivot stands in one of the columns
pivot_within : (a : Matrices) (i j p : ℕ) → IsPivot (row_of a i j) p → p < a.columns
pivot_within a i j p pivot = let l : p < length (row_of a i j) = pivot.within in omega (arith, length-take {A = ℕ} a.columns)

-- the remaining rows modulo the first lose at most one from the strength
pub keep_strength : (a b : Matrices) (k : ℕ) → AllElements a.order (row_of a 0 0) → IsQuotientKeep a b → Strength a k → Strength b (k - 1)
keep_strength a b k elements (p, pivot, made) strength =
    strength_from_digits b a.order (a.columns - 1) a.coordinates (a.depth - 1) (λ i j c. modulo_first a p i (remaining_row i j) c) (k - 1) made
    (strength_cong (field_of a.order) (kept (field_of a.order) (table_of a) p) _ a.coordinates (a.depth - 1) (a.columns - 1) (k - 1)
    (λ i j c hi hj hc. sym (digit-reduced a.order (row_of a 0 0) p (row_of a i (remaining_row i j)) _))
    (kept_strength (field_of a.order) (field_laws a.order) (table_of a) a.coordinates a.depth a.columns p k
    (pivot_within a 0 0 p pivot) (pivot_apart a.order (row_of a 0 0) p elements pivot) (strength_lifted a k strength)))

-- the coordinates but the first, modulo its first row, lose at most one from the strength
pub drop_strength : (a b : Matrices) (k : ℕ) → AllElements a.order (row_of a 0 0) → IsQuotientDrop a b → Strength a k → Strength b (k - 1)
drop_strength a b k elements (p, pivot, made) strength =
    strength_from_digits b a.order (a.columns - 1) (a.coordinates - 1) a.depth (λ i j c. modulo_first a p (suc i) j c) (k - 1) made
    (strength_cong (field_of a.order) (dropped (field_of a.order) (table_of a) p) _ (a.coordinates - 1) a.depth (a.columns - 1) (k - 1)
    (λ i j c hi hj hc. sym (digit-reduced a.order (row_of a 0 0) p (row_of a (suc i) j) _))
    (dropped_strength (field_of a.order) (field_laws a.order) (table_of a) a.coordinates a.depth a.columns p k
    (pivot_within a 0 0 p pivot) (pivot_apart a.order (row_of a 0 0) p elements pivot) (strength_lifted a k strength)))
