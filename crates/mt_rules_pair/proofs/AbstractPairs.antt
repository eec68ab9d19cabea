-- Two systems side by side, over any field: their product, and their (u,u+v) system.
use Rattle.std.proofs.Common.{◌≡◌, ℕ, zero, suc, ◌+◌, ◌-◌, ◌*◌, ◌<◌, ◌≤◌, min, max, inl, inr, refl, sym, ap, ap₂, ◌∙◌, subst, arith, add-zero, add-suc}
use Rattle.std.proofs.lemmas.Bool.{cases_lt}
use Rattle.mt_linear.proofs.Abstract.{Ops, HasFieldLaws, sum_of, sum_cong, sum_null, null_add, cancel, mul_null}
use Rattle.mt_linear.proofs.Sums.{null_mul, mul_neg, neg-mul, neg_null, sum_add, sum_split, sum_more}
use Rattle.mt_system.proofs.AbstractStrength.{Table, size_of, size_cong, HasStrength}
use Rattle.mt_system.proofs.Distance.{full, full_null, IsWithin, HasDistance, pick, pick_low, pick_high, distance_from_strength, strength_from_distance}

-- the sizes of s coordinates, and of r behind them
size_split : (s r : ℕ) (d : ℕ → ℕ) → size_of (s + r) d ≡ size_of s d + size_of r (λ i. d (s + i))
size_split s zero d = rw (add-zero s) (omega arith)
size_split s (suc r) d = rw add-suc (omega (arith, size_split s r d))

-- sizes past the s-th that are 0
size_more : (s r : ℕ) (d : ℕ → ℕ) → s ≤ r → ((i : ℕ) → s ≤ i → d i ≡ 0) → size_of r d ≡ size_of s d
size_more s zero d h z = let e : s ≡ 0 = omega arith in rw e refl
size_more s (suc r) d h z = elim (cases_lt r s) [
  | inl l ↦ let e : s ≡ suc r = omega arith in rw e refl
  | inr l ↦ omega (arith, size_more s r d l z, z r l)
]

-- the larger and the smaller of two sizes add up to both
size_parts : (s : ℕ) (d e : ℕ → ℕ)
    → (size_of s (λ i. max (d i) (e i)) + size_of s (λ i. min (d i) (e i)) ≡ size_of s d + size_of s e)
    × (size_of s (λ i. min (d i) (e i)) ≤ size_of s (λ i. max (d i) (e i)))
size_parts zero d e = (omega arith, omega arith)
size_parts (suc s) d e = (omega (arith, (size_parts s d e).0), omega (arith, (size_parts s d e).1))

-- R has the rows of A with those of C behind them, and then zeros with the rows of B behind them
pub record IsPair {K : Type 0} (F : Ops K) (R A C B : Table K) (s r depth m n : ℕ) : Type 0 where
  pub first_left : (i j c : ℕ) → i < s → j < depth → c < m → R i j c ≡ A i j c
  pub first_right : (i j c : ℕ) → i < s → j < depth → c < n → R i j (m + c) ≡ C i j c
  pub second_left : (i j c : ℕ) → i < r → j < depth → c < m → R (s + i) j c ≡ F.null
  pub second_right : (i j c : ℕ) → i < r → j < depth → c < n → R (s + i) j (m + c) ≡ B i j c

module _ {K : Type 0} (F : Ops K) (L : HasFieldLaws F) where
  -- equal digits give equal sums
  full_cong : (R S : Table K) (s depth : ℕ) (x : ℕ → ℕ → K) (c e : ℕ) → ((i j : ℕ) → i < s → j < depth → R i j c ≡ S i j e)
      → full F R s depth x c ≡ full F S s depth x e
  full_cong R S s depth x c e h = sum_cong F s _ _ (λ i hi. sum_cong F depth _ _ (λ j hj. ap (F.mul (x i j)) (h i j hi hj)))

  -- coefficients that are zero in both halves are zero
  halves : (s r : ℕ) (x : ℕ → ℕ → K) → ((i j : ℕ) → i < s → x i j ≡ F.null) → ((i j : ℕ) → i < r → x (s + i) j ≡ F.null)
      → (i j : ℕ) → i < s + r → x i j ≡ F.null
  halves s r x first second i j h = elim (cases_lt i s) [
    | inl l ↦ first i j l
    | inr l ↦ let e : s + (i - s) ≡ i = omega arith in subst (λ n. x n j ≡ F.null) e (second (i - s) j (omega arith))
  ]

  module _ (R A C B : Table K) (s r depth m n : ℕ) (pair : IsPair F R A C B s r depth m n) (x : ℕ → ℕ → K) where
    -- in the first m columns only the first half counts
    left_sum : (c : ℕ) → c < m → full F R (s + r) depth x c ≡ full F A s depth x c
    left_sum c h =
        sum_split F L s r _
        ∙ ap₂ F.add (full_cong R A s depth x c c (λ i j hi hj. pair.first_left i j c hi hj h))
        (full_null F L (λ i. R (s + i)) r depth (λ i. x (s + i)) c (λ i j hi hj.
        ap (F.mul (x (s + i) j)) (pair.second_left i j c hi hj h) ∙ mul_null F L (x (s + i) j)))
        ∙ L.add_null _

    -- in the others both do
    right_sum : (c : ℕ) → c < n → full F R (s + r) depth x (m + c) ≡ F.add (full F C s depth x c) (full F B r depth (λ i. x (s + i)) c)
    right_sum c h =
        sum_split F L s r _
        ∙ ap₂ F.add (full_cong R C s depth x (m + c) c (λ i j hi hj. pair.first_right i j c hi hj h))
        (full_cong (λ i. R (s + i)) B r depth (λ i. x (s + i)) (m + c) c (λ i j hi hj. pair.second_right i j c hi hj h))

  -- (a, 0) and (0, b): each half alone
  product_distance : (R A B : Table K) (s r depth m n k l : ℕ) → IsPair F R A (λ i j c. F.null) B s r depth m n
      → HasDistance F A s depth m k → HasDistance F B r depth n l → HasDistance F R (s + r) depth (m + n) (min k l)
  product_distance R A B s r depth m n k l pair first second d le size x w z =
      halves s r x
      (first d (λ i h. le i (omega arith)) (omega (arith, size_split s r d)) x (λ i j h g. w i j (omega arith) g)
      (λ c h. sym (left_sum R A (λ i j c. F.null) B s r depth m n pair x c h) ∙ z c (omega arith)))
      (second (λ i. d (s + i)) (λ i h. le (s + i) (omega arith)) (omega (arith, size_split s r d)) (λ i. x (s + i)) (λ i j h g. w (s + i) j (omega arith) g)
      (λ c h. sym (right_sum R A (λ i j c. F.null) B s r depth m n pair x c h
      ∙ ap (λ y. F.add y (full F B r depth (λ i. x (s + i)) c)) (full_null F L (λ i j c. F.null) s depth x c (λ i j hi hj. mul_null F L (x i j)))
      ∙ null_add F L _)
      ∙ z (m + c) (omega arith)))

  -- (a, -b) and (0, b): the right columns say that both halves have the same coefficients, since no more than l rows of B differ in them.
  -- So the rows of A have only coefficients that stand in both halves, and those are at most k of the 2 * k + 1
  uuv_distance : (R A B : Table K) (s r depth m n k l : ℕ) → s ≤ r → IsPair F R A (λ i j c. F.neg (B i j c)) B s r depth m n
      → HasDistance F A s depth m k → HasDistance F B r depth n l → HasDistance F R (s + r) depth (m + n) (min (2 * k + 1) l)
  uuv_distance R A B s r depth m n k l few pair first second d le size x w z =
      halves s r x first_null (λ i j h. same i j h ∙ padded_null i j (λ g. first_null i j g))
    where
      -- the sizes and the coefficients of the first half, for r coordinates
      e : ℕ → ℕ
      e i = pick i s (d i) 0

      u : ℕ → ℕ → K
      u i j = pick i s (x i j) F.null

      padded_null : (i j : ℕ) → (i < s → x i j ≡ F.null) → u i j ≡ F.null
      padded_null i j h = elim (cases_lt i s) [
        | inl l ↦ pick_low i s (x i j) F.null l ∙ h l
        | inr l ↦ pick_high i s (x i j) F.null l
      ]

      past : (i j : ℕ) → e i ≤ j → u i j ≡ F.null
      past i j h = padded_null i j (λ l. w i j (omega arith) (omega (arith, pick_low i s (d i) 0 l)))

      small : (i : ℕ) → i < r → e i ≤ depth
      small i h = elim (cases_lt i s) [
        | inl l ↦ omega (arith, pick_low i s (d i) 0 l, le i (omega arith))
        | inr l ↦ omega (arith, pick_high i s (d i) 0 l)
      ]

      sizes : (size_of r (λ i. max (e i) (d (s + i))) ≤ l) × (size_of s (λ i. min (e i) (d (s + i))) ≤ k)
      sizes = (omega (arith, both, parts.0), omega (arith, both, parts.0, parts.1, shared))
        where
          parts : (size_of r (λ i. max (e i) (d (s + i))) + size_of r (λ i. min (e i) (d (s + i))) ≡ size_of r e + size_of r (λ i. d (s + i)))
              × (size_of r (λ i. min (e i) (d (s + i))) ≤ size_of r (λ i. max (e i) (d (s + i))))
          parts = size_parts r e (λ i. d (s + i))

          both : size_of r e + size_of r (λ i. d (s + i)) ≡ size_of (s + r) d
          both =
              omega (arith, size_split s r d, size_more s r e few (λ i h. pick_high i s (d i) 0 h), size_cong s e d (λ i h. pick_low i s (d i) 0 h))

          shared : size_of r (λ i. min (e i) (d (s + i))) ≡ size_of s (λ i. min (e i) (d (s + i)))
          shared = size_more s r _ few (λ i h. omega (arith, pick_high i s (d i) 0 h))

      -- what the right columns say
      difference : (c : ℕ) → c < n → full F B r depth (λ i j. F.add (x (s + i) j) (F.neg (u i j))) c ≡ F.null
      difference c h =
          sum_cong F r _ _ (λ i hi.
          sum_cong F depth _ _ (λ j hj. L.mul_comm _ _ ∙ L.mul_add (B i j c) _ _ ∙ ap₂ F.add (L.mul_comm _ _) (L.mul_comm _ _))
          ∙ sum_add F L depth _ _)
          ∙ sum_add F L r _ _
          ∙ L.add_comm _ _
          ∙ ap (λ y. F.add y (full F B r depth (λ i. x (s + i)) c))
          (sum_more F L s r (λ i. sum_of F depth (λ j. F.mul (F.neg (u i j)) (B i j c))) few
          (λ i g. sum_null F L depth _ (λ j hj.
          ap (λ y. F.mul y (B i j c)) (ap F.neg (pick_high i s (x i j) F.null g) ∙ neg_null F L) ∙ null_mul F L (B i j c)))
          ∙ sum_cong F s _ _ (λ i hi. sum_cong F depth _ _ (λ j hj.
          ap (λ y. F.mul (F.neg y) (B i j c)) (pick_low i s (x i j) F.null hi)
          ∙ neg-mul F L (x i j) (B i j c)
          ∙ sym (mul_neg F L (x i j) (B i j c)))))
          ∙ sym (right_sum R A (λ i j c. F.neg (B i j c)) B s r depth m n pair x c h)
          ∙ z (m + c) (omega arith)

      same : (i j : ℕ) → i < r → x (s + i) j ≡ u i j
      same i j h =
          cancel F L (x (s + i) j) (u i j) (F.neg (u i j))
          (second (λ i. max (e i) (d (s + i))) (λ i h. omega (arith, small i h, le (s + i) (omega arith))) sizes.0
          (λ i j. F.add (x (s + i) j) (F.neg (u i j)))
          (λ i j h g. ap₂ (λ y v. F.add y (F.neg v)) (w (s + i) j (omega arith) (omega arith)) (past i j (omega arith)) ∙ L.add_neg F.null)
          difference i j h
          ∙ sym (L.add_neg (u i j)))

      -- a coefficient of the first half is zero past either size
      within : IsWithin F s (λ i. min (e i) (d (s + i))) x
      within i j h g =
          sym (pick_low i s (x i j) F.null h)
          ∙ elim (cases_lt j (e i)) [
            | inl l ↦ sym (same i j (omega arith)) ∙ w (s + i) j (omega arith) (omega arith)
            | inr l ↦ past i j l
          ]

      first_null : (i j : ℕ) → i < s → x i j ≡ F.null
      first_null =
          first (λ i. min (e i) (d (s + i))) (λ i h. omega (arith, small i (omega arith))) sizes.1 x within
          (λ c h. sym (left_sum R A (λ i j c. F.neg (B i j c)) B s r depth m n pair x c h) ∙ z c (omega arith))

  pub product_strength : (R A B : Table K) (s r depth m n k l : ℕ) → IsPair F R A (λ i j c. F.null) B s r depth m n
      → HasStrength F A s depth m k → HasStrength F B r depth n l → HasStrength F R (s + r) depth (m + n) (min k l)
  product_strength R A B s r depth m n k l pair first second =
      strength_from_distance F L R (s + r) depth (m + n) (min k l)
      (product_distance R A B s r depth m n k l pair (distance_from_strength F L A s depth m k first) (distance_from_strength F L B r depth n l second))

  pub uuv_strength : (R A B : Table K) (s r depth m n k l : ℕ) → s ≤ r → IsPair F R A (λ i j c. F.neg (B i j c)) B s r depth m n
      → HasStrength F A s depth m k → HasStrength F B r depth n l → HasStrength F R (s + r) depth (m + n) (min (2 * k + 1) l)
  uuv_strength R A B s r depth m n k l few pair first second =
      strength_from_distance F L R (s + r) depth (m + n) (min (2 * k + 1) l)
      (uuv_distance R A B s r depth m n k l few pair (distance_from_strength F L A s depth m k first) (distance_from_strength F L B r depth n l second))
