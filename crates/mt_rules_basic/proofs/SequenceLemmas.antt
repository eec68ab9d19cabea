-- Strengths of sequences' matrices: with a coordinate less, cut, and as nets.
use Rattle.std.proofs.Common.{◌≡◌, ◌≢◌, ℕ, suc, ◌+◌, ◌-◌, ◌<◌, ◌≤◌, inl, inr, cond, ltb, sym, ap, ◌∙◌, subst, arith, eq-eqb}
use Rattle.std.proofs.lemmas.Bool.{cases_lt, cond-true, cond-false, lt-ltb, le-ltb, ne_eqb}
use Rattle.mt_linear.proofs.Abstract.{Ops, HasFieldLaws, sum_of, sum_cong, sum_null, null_add, mul_null, digit, field_of, field_laws}
use Rattle.mt_linear.proofs.Sums.{null_mul, sum_one}
use Rattle.mt_system.specs.Rows.{Matrices, Strength, SequenceStrength}
use Rattle.mt_system.specs.Digits.{digit_of, unit}
use Rattle.mt_system.proofs.AbstractStrength.{Table, combination, HasStrength, HasSequenceStrength, size_at}
use Rattle.mt_system.proofs.StrengthBridge.{table_of, sequence_lifted, sequence_lowered}
use Rattle.mt_system.proofs.Makes.{strength_from_digits, sequence_from_digits}
use Rattle.mt_rules_basic.specs.Rules.{IsFewer, IsCut, IsNet}
use Rattle.mt_rules_basic.proofs.RowLemmas.{fewer}

-- the rows of A, and a last coordinate of the unit vectors from the last to the first
record IsNetTable {K : Type 0} (F : Ops K) (A R : Table K) (s m : ℕ) : Type 0 where
  old : (i j c : ℕ) → i < s → R i j c ≡ A i j c
  one_at : (j c : ℕ) → j + c + 1 ≡ m → R s j c ≡ F.one
  null_at : (j c : ℕ) → j < m → j + c + 1 ≢ m → R s j c ≡ F.null

module _ {K : Type 0} (F : Ops K) (L : HasFieldLaws F) where
  -- the first n new rows are zero in the first m - n columns
  new_null : (A R : Table K) (s m n : ℕ) → IsNetTable F A R s m → n ≤ m → (x : ℕ → K) (c : ℕ) → c < m - n
      → sum_of F n (λ j. F.mul (x j) (R s j c)) ≡ F.null
  new_null A R s m n net le x c h =
      sum_null F L n _ (λ j g. ap (F.mul (x j)) (net.null_at j c (omega arith) (λ e. omega arith)) ∙ mul_null F L (x j))

  -- column m - 1 - j reads the coefficient of new row j
  new_read : (A R : Table K) (s m n : ℕ) → IsNetTable F A R s m → n ≤ m → (x : ℕ → K) (j : ℕ) → j < n
      → sum_of F n (λ i. F.mul (x i) (R s i (m - 1 - j))) ≡ x j
  new_read A R s m n net le x j h =
      sum_one F L n j (λ i. F.mul (x i) (R s i (m - 1 - j))) h
      (λ i g apart. ap (F.mul (x i)) (net.null_at i (m - 1 - j) (omega arith) (λ e. apart (omega arith))) ∙ mul_null F L (x i))
      ∙ ap (F.mul (x j)) (net.one_at j (m - 1 - j) (omega arith))
      ∙ L.mul_one (x j)

  -- a net has the strength of its sequence (Niederreiter, 1987)
  net_of_sequence : (A R : Table K) (s depth m u : ℕ) → u ≤ m → IsNetTable F A R s m → HasSequenceStrength F A s m u → HasStrength F R (suc s) depth m u
  net_of_sequence A R s depth m u le net strength d deep small x zeros i j hi hj = elim (cases_lt i s) [
    | inl g ↦ old_rows i j g hj
    | inr g ↦ let e : i ≡ s = omega arith in subst (λ n. x n j ≡ F.null) (sym e) (new_rows j (subst (λ n. j < d n) e hj))
  ]
    where
      old_rows : (i j : ℕ) → i < s → j < d i → x i j ≡ F.null
      old_rows =
          strength (m - d s) (omega arith) d (λ i h. omega (arith, size_at s d i h)) (omega arith) x (λ c h.
          sym (sum_cong F s _ _ (λ i g. sum_cong F (d i) _ _ (λ j k. ap (F.mul (x i j)) (net.old i j c g))))
          ∙ sym (ap (F.add (combination F R s d x c)) (new_null A R s m (d s) net (omega arith) (x s) c h) ∙ L.add_null _)
          ∙ zeros c (omega arith))

      old_sum : (c : ℕ) → combination F R s d x c ≡ F.null
      old_sum c =
          sum_null F L s _ (λ i g. sum_null F L (d i) _ (λ j k. ap (λ y. F.mul y (R i j c)) (old_rows i j g k) ∙ null_mul F L (R i j c)))

      new_rows : (j : ℕ) → j < d s → x s j ≡ F.null
      new_rows j h =
          sym (new_read A R s m (d s) net (omega arith) (x s) j h)
          ∙ sym (null_add F L _)
          ∙ ap (λ y. F.add y (sum_of F (d s) (λ i. F.mul (x s i) (R s i (m - 1 - j))))) (sym (old_sum (m - 1 - j)))
          ∙ zeros (m - 1 - j) (omega arith)

-- the digits of a net
abbrev net_digit : Matrices → ℕ → ℕ → ℕ → ℕ
net_digit a i j c = cond (ltb i a.coordinates) (digit_of a i j c) (unit (a.columns - 1 - j) c)

-- a net's elements are those of its sequence and the unit vectors
net_table : (a : Matrices) → IsNetTable (field_of a.order) (table_of a) (λ i j c. digit a.order (net_digit a i j c)) a.coordinates a.columns
net_table a = record {
  old = λ i j c h. ap (digit a.order) (cond-true _ _ _ (lt-ltb i a.coordinates h));
  one_at = λ j c e. ap (digit a.order) (new j c ∙ cond-true _ _ _ (eq-eqb c (a.columns - 1 - j) (omega arith)));
  null_at = λ j c h apart. ap (digit a.order) (new j c ∙ cond-false _ _ _ (ne_eqb c (a.columns - 1 - j) (λ e. apart (omega arith))));
}
  where
    new : (j c : ℕ) → net_digit a a.coordinates j c ≡ unit (a.columns - 1 - j) c
    new j c = cond-false _ _ _ (le-ltb a.coordinates a.coordinates (omega arith))

-- each system has strength 0 as a sequence
pub sequence_least : (a : Matrices) → SequenceStrength a 0
sequence_least a = sequence_lowered a 0 (λ n l d deep small x zeros i j hi hj. absurd (omega (arith, size_at a.coordinates d i hi)))

-- a sequence with a coordinate less has its strengths
pub fewer_sequence : (a b : Matrices) (u : ℕ) → a.depth ≡ a.columns → IsFewer a b → SequenceStrength a u → SequenceStrength b u
fewer_sequence a b u square made strength =
    sequence_from_digits b a.order a.columns (a.coordinates - 1) a.depth (digit_of a) u (omega arith) made (λ n l.
    fewer (field_of a.order) (field_laws a.order) (table_of a) a.coordinates n n (n - (a.columns - u)) (sequence_lifted a u strength n l))

-- a sequence with a column less, and as many rows, has its strengths less 1
pub cut_sequence : (a b : Matrices) (u : ℕ) → a.depth ≡ a.columns → IsCut a b → SequenceStrength a u → SequenceStrength b (u - 1)
cut_sequence a b u square made strength =
    sequence_from_digits b a.order (a.columns - 1) a.coordinates (a.depth - 1) (digit_of a) (u - 1) (omega arith) made (λ n l d deep small.
    sequence_lifted a u strength n (omega arith) d deep (omega arith))

-- the net of a sequence has its strengths
pub net_strength : (a b : Matrices) (u : ℕ) → u ≤ a.columns → IsNet a b → SequenceStrength a u → Strength b u
net_strength a b u le made strength =
    strength_from_digits b a.order a.columns (suc a.coordinates) a.depth (net_digit a) u made
    (net_of_sequence (field_of a.order) (field_laws a.order) (table_of a) _ a.coordinates a.depth a.columns u le (net_table a) (sequence_lifted a u strength))
