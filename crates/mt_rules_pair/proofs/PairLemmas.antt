-- The strength of the systems made of two parents.
use Rattle.std.proofs.Common.{◌≡◌, ℕ, ◌+◌, ◌-◌, ◌*◌, ◌<◌, ◌≤◌, min, inl, inr, cond, ltb, refl, sym, ap, ◌∙◌, subst, arith, eq-eqb}
use Rattle.std.proofs.lemmas.Bool.{cases_eq, cond-true, cond-false, lt-ltb, le-ltb, ne_eqb}
use Rattle.mt_linear.specs.Field.{number_of, neg_of}
use Rattle.mt_linear.proofs.Abstract.{Digit, digit, digit-neg, field_of, field_laws}
use Rattle.mt_system.specs.Rows.{Matrices, Strength}
use Rattle.mt_system.specs.Digits.{digit_of}
use Rattle.mt_system.proofs.AbstractStrength.{Table, HasStrength, continued}
use Rattle.mt_system.proofs.StrengthBridge.{table_of, strength_lifted}
use Rattle.mt_system.proofs.Makes.{strength_from_digits}
use Rattle.mt_rules_pair.specs.Pairs.{deepened, beside, zeros, product_digit, uuv_digit, IsProduct, IsUuv, deepened_strength}
use Rattle.mt_rules_pair.proofs.AbstractPairs.{IsPair, product_strength as product_of_tables, uuv_strength as uuv_of_tables}

-- the digits of a with those of f behind them, and then zeros with the digits of b behind them
abbrev pair_digit : Matrices → Matrices → (ℕ → ℕ → ℕ → ℕ) → ℕ → ℕ → ℕ → ℕ
pair_digit a b f i j =
    cond (ltb i a.coordinates) (beside a.columns (deepened a i j) (f i j)) (beside a.columns zeros (digit_of b (i - a.coordinates) j))

-- the digits of a, whose missing rows are zero, as elements of the field of b
abbrev deepened_table : (a b : Matrices) → Table (Digit (number_of b.order))
deepened_table a b i j c = digit b.order (deepened a i j c)

module _ (a b : Matrices) where
  pair_table : (f : ℕ → ℕ → ℕ → ℕ) (C : Table (Digit (number_of b.order))) → ((i j c : ℕ) → digit b.order (f i j c) ≡ C i j c)
      → IsPair (field_of b.order) (λ i j c. digit b.order (pair_digit a b f i j c)) (deepened_table a b) C (table_of b) a.coordinates b.coordinates
      b.depth a.columns b.columns
  pair_table f C same = record {
    first_left = λ i j c hi hj hc. ap (digit b.order) (first i j c hi ∙ cond-true _ _ _ (lt-ltb c a.columns hc));
    first_right = λ i j c hi hj hc. ap (digit b.order) (first i j (a.columns + c) hi ∙ behind (deepened a i j) (f i j) c) ∙ same i j c;
    second_left = λ i j c hi hj hc. ap (digit b.order) (second i j c ∙ cond-true _ _ _ (lt-ltb c a.columns hc));
    second_right = λ i j c hi hj hc. ap (digit b.order) (second i j (a.columns + c) ∙ behind zeros (digit_of b i j) c);
  }
    where
      first : (i j c : ℕ) → i < a.coordinates → pair_digit a b f i j c ≡ beside a.columns (deepened a i j) (f i j) c
      first i j c h = ap (λ (g : ℕ → ℕ). g c) (cond-true _ _ _ (lt-ltb i a.coordinates h))

      second : (i j c : ℕ) → pair_digit a b f (a.coordinates + i) j c ≡ beside a.columns zeros (digit_of b i j) c
      second i j c =
          let e : a.coordinates + i - a.coordinates ≡ i = omega arith in
          ap (λ (g : ℕ → ℕ). g c) (cond-false _ _ _ (le-ltb (a.coordinates + i) a.coordinates (omega arith)))
          ∙ ap (λ n. beside a.columns zeros (digit_of b n j) c) e

      behind : (left right : ℕ → ℕ) (c : ℕ) → beside a.columns left right (a.columns + c) ≡ right c
      behind left right c = cond-false _ _ _ (le-ltb (a.columns + c) a.columns (omega arith)) ∙ ap right (omega arith)

  -- a choice of rows of this strength doesn't reach the zero rows, or there are none
  deepened_reach : (k : ℕ) → (deepened_strength a.depth b.depth k ≤ k) × (min b.depth (deepened_strength a.depth b.depth k) ≤ a.depth)
  deepened_reach k = elim (cases_eq a.depth b.depth) [
    | inl e ↦ rw (cond-true _ k (min k a.depth) (eq-eqb a.depth b.depth e)) (omega arith, omega arith)
    | inr e ↦ rw (cond-false _ k (min k a.depth) (ne_eqb a.depth b.depth e)) (omega arith, omega arith)
  ]

  first_strength : (k : ℕ) → a.order ≡ b.order → Strength a k
      → HasStrength (field_of b.order) (deepened_table a b) a.coordinates b.depth a.columns (deepened_strength a.depth b.depth k)
  first_strength k order strength =
      continued (field_of b.order) (λ i j c. digit b.order (digit_of a i j c)) (deepened_table a b) a.coordinates a.depth a.columns k b.depth
      a.columns (deepened_strength a.depth b.depth k)
      (λ i j c hi hj hc. ap (digit b.order) (sym (cond-true _ _ _ (lt-ltb j a.depth hj))))
      (omega arith) (deepened_reach k).0 (deepened_reach k).1
      (subst (λ o. HasStrength (field_of o) (λ i j c. digit o (digit_of a i j c)) a.coordinates a.depth a.columns k) order (strength_lifted a k strength))

-- a choice from the product is one from each parent
pub product_strength : (a b r : Matrices) (j k : ℕ) → a.order ≡ b.order → IsProduct a b r → Strength a j → Strength b k
    → Strength r (min (deepened_strength a.depth b.depth j) k)
product_strength a b r j k order made first second =
    strength_from_digits r b.order (a.columns + b.columns) (a.coordinates + b.coordinates) b.depth (product_digit a b) _ made
    (product_of_tables (field_of b.order) (field_laws b.order) _ (deepened_table a b) (table_of b) a.coordinates b.coordinates b.depth
    a.columns b.columns (deepened_strength a.depth b.depth j) k (pair_table a b (λ i j. zeros) _ (λ i j c. refl))
    (first_strength a b j order first) (strength_lifted b k second))

-- a choice from the (u,u+v) system has its coefficients of the first parent among those of the second (Bierbrauer, Edel and Schmid, 2002)
pub uuv_strength : (a b r : Matrices) (j k : ℕ) → a.order ≡ b.order → a.coordinates ≤ b.coordinates → IsUuv a b r → Strength a j → Strength b k
    → Strength r (min (2 * deepened_strength a.depth b.depth j + 1) k)
uuv_strength a b r j k order few made first second =
    strength_from_digits r b.order (a.columns + b.columns) (a.coordinates + b.coordinates) b.depth (uuv_digit a b) _ made
    (uuv_of_tables (field_of b.order) (field_laws b.order) _ (deepened_table a b) (table_of b) a.coordinates b.coordinates b.depth
    a.columns b.columns (deepened_strength a.depth b.depth j) k few
    (pair_table a b (λ i j c. neg_of b.order (digit_of b i j c)) _ (λ i j c. digit-neg b.order (digit_of b i j c)))
    (first_strength a b j order first) (strength_lifted b k second))
