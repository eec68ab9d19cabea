-- Strength where a coordinate or rows are dropped, and where zero rows or a zero column are added.
use Rattle.std.proofs.Common.{◌≡◌, ℕ, zero, suc, ◌-◌, ◌<◌, min, inl, inr, ltb, refl, sym, ap, ap₂, ◌∙◌, arith}
use Rattle.std.proofs.lemmas.Bool.{cases_lt, cond-true, lt-ltb}
use Rattle.mt_linear.proofs.Abstract.{Ops, HasFieldLaws, sum_of, sum_cong, digit, field_of, field_laws}
use Rattle.mt_system.specs.Rows.{Matrices, Strength}
use Rattle.mt_system.specs.Digits.{digit_of}
use Rattle.mt_system.proofs.AbstractStrength.{Table, size_cong, HasStrength, continued}
use Rattle.mt_system.proofs.StrengthBridge.{table_of, strength_lifted}
use Rattle.mt_system.proofs.Distance.{pick, pick_low, pick_high}
use Rattle.mt_system.proofs.Makes.{strength_from_digits}
use Rattle.mt_rules_basic.specs.Rules.{IsFewer, IsShallower, IsDeeper, IsLonger}

-- the coordinates but the last have the strength of all
without_last : {K : Type 0} (F : Ops K) → HasFieldLaws F → (R : Table K) (s depth m k : ℕ)
    → HasStrength F R (suc s) depth m k → HasStrength F R s depth m k
without_last F L R s depth m k strength d le size x z i j h g =
    strength e
    (λ i h. elim (cases_lt i s) [ inl l ↦ rw (low i l) (le i l) | inr l ↦ rw (pick_high i s (d i) 0 l) (omega arith) ])
    (omega (arith, size_cong s e d low, last))
    x
    (λ c l. ap₂ F.add (sum_cong F s _ _ (λ i h. ap (λ n. sum_of F n (λ j. F.mul (x i j) (R i j c))) (low i h)))
    (ap (λ n. sum_of F n (λ j. F.mul (x s j) (R s j c))) last)
    ∙ L.add_null _ ∙ z c l)
    i j (omega arith) (rw (low i h) g)
  where
    e : ℕ → ℕ
    e i = pick i s (d i) 0

    low : (i : ℕ) → i < s → e i ≡ d i
    low i h = pick_low i s (d i) 0 h

    last : e s ≡ 0
    last = pick_high s s (d s) 0 (omega arith)

-- the same where there may be no coordinate
pub fewer : {K : Type 0} (F : Ops K) → HasFieldLaws F → (R : Table K) (s depth m k : ℕ)
    → HasStrength F R s depth m k → HasStrength F R (s - 1) depth m k
fewer F L R zero depth m k strength = strength
fewer F L R (suc s) depth m k strength = let e : suc s - 1 ≡ s = omega arith in rw e (without_last F L R s depth m k strength)

-- a choice from the coordinates but the last is one from all
pub fewer_strength : (a b : Matrices) (k : ℕ) → IsFewer a b → Strength a k → Strength b k
fewer_strength a b k made strength =
    strength_from_digits b a.order a.columns (a.coordinates - 1) a.depth (digit_of a) k made
    (fewer (field_of a.order) (field_laws a.order) (table_of a) a.coordinates a.depth a.columns k (strength_lifted a k strength))

-- a choice from the rows but the last is one from all
pub shallower_strength : (a b : Matrices) (k : ℕ) → IsShallower a b → Strength a k → Strength b k
shallower_strength a b k made strength =
    strength_from_digits b a.order a.columns a.coordinates (a.depth - 1) (digit_of a) k made
    (continued (field_of a.order) (table_of a) (table_of a) a.coordinates a.depth a.columns k (a.depth - 1) a.columns k
    (λ i j c hi hj hc. refl) (omega arith) (omega arith) (omega arith) (strength_lifted a k strength))

-- a choice of at most `a.depth` rows doesn't reach the zero rows
pub deeper_strength : (a b : Matrices) (k : ℕ) → IsDeeper a b → Strength a k → Strength b (min k a.depth)
deeper_strength a b k made strength =
    strength_from_digits b a.order a.columns a.coordinates (suc a.depth) _ (min k a.depth) made
    (continued (field_of a.order) (table_of a) _ a.coordinates a.depth a.columns k (suc a.depth) a.columns (min k a.depth)
    (λ i j c hi hj hc. ap (digit a.order) (sym (cond-true (ltb j a.depth) (digit_of a i j c) 0 (lt-ltb j a.depth hj))))
    (omega arith) (omega arith) (omega arith) (strength_lifted a k strength))

-- rows that are independent in the first columns are independent
pub longer_strength : (a b : Matrices) (k : ℕ) → IsLonger a b → Strength a k → Strength b k
longer_strength a b k made strength =
    strength_from_digits b a.order (suc a.columns) a.coordinates a.depth _ k made
    (continued (field_of a.order) (table_of a) _ a.coordinates a.depth a.columns k a.depth (suc a.columns) k
    (λ i j c hi hj hc. ap (digit a.order) (sym (cond-true (ltb c a.columns) (digit_of a i j c) 0 (lt-ltb c a.columns hc))))
    (omega arith) (omega arith) (omega arith) (strength_lifted a k strength))
