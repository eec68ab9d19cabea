-- Quotients over any field: rows modulo a row v, which is not zero in column p.
use Rattle.std.proofs.Common.{◌≡◌, ◌≢◌, ℕ, zero, suc, pred, ◌-◌, ◌<◌, ◌≤◌, inl, inr, refl, sym, ap, ap₂, ◌∙◌, arith}
use Rattle.std.proofs.lemmas.Bool.{cases_lt, cases_order, lt-ltb, le-ltb}
use Rattle.std.proofs.Math.Numerals.{sub-one}
use Rattle.mt_linear.proofs.Abstract.{Ops, HasFieldLaws, sum_of, sum_cong, sum_first, mul_null}
use Rattle.mt_linear.proofs.Sums.{null_mul, mul_neg, neg-mul, sum_add, sum_mul, sum_one}
use Rattle.mt_system.proofs.AbstractStrength.{Table, size_of, size_first, size_at, HasStrength}
use Rattle.mt_system.proofs.Distance.{full, full_null, IsWithin, HasDistance, distance_from_strength, strength_from_distance}
use Rattle.mt_rules_basic.specs.Rules.{skip, remaining_row}

-- column c of r - (r_p / v_p) * v
abbrev pub reduced : {K : Type 0} → Ops K → (ℕ → K) → ℕ → (ℕ → K) → ℕ → K
reduced F v p r c = F.add (r c) (F.neg (F.mul (F.mul (r p) (F.inv (v p))) (v c)))

-- the remaining rows modulo row 0 of coordinate 0, without column p
abbrev pub kept : {K : Type 0} → Ops K → Table K → ℕ → Table K
kept F R p i j c = reduced F (R 0 0) p (R i (remaining_row i j)) (skip p c)

-- all coordinates but the first modulo row 0 of coordinate 0, without column p
abbrev pub dropped : {K : Type 0} → Ops K → Table K → ℕ → Table K
dropped F R p i j c = reduced F (R 0 0) p (R (suc i) j) (skip p c)

-- where fewer than k prefix rows of S, with the coefficients x, and a multiple of v have the sum zero, x is zero
abbrev HasDistanceModulo : {K : Type 0} → Ops K → Table K → (ℕ → K) → ℕ → ℕ → ℕ → ℕ → Type 0
HasDistanceModulo {K} F S v s depth m k =
    (d : ℕ → ℕ) → ((i : ℕ) → i < s → d i ≤ depth) → size_of s d < k → (x : ℕ → ℕ → K) (y : K) → IsWithin F s d x
    → ((c : ℕ) → c < m → F.add (full F S s depth x c) (F.mul y (v c)) ≡ F.null) → (i j : ℕ) → i < s → x i j ≡ F.null

-- x, and then the values of f
abbrev before : {A : Type 0} → A → (ℕ → A) → ℕ → A
before x f zero = x
before x f (suc i) = f i

-- each column is p or one of the others
skip_cases : (P : ℕ → Type 0) (p m : ℕ) → p < suc m → P p → ((c : ℕ) → c < m → P (skip p c)) → (c : ℕ) → c < suc m → P c
skip_cases P p m hp at_p others c h = elim (cases_order c p) [
  | inl e ↦ rw e at_p
  | inr apart ↦ elim apart [
    | inl low ↦ rw (lt-ltb c p low) at (others c (omega arith))
    | inr high ↦
        let e : c ≡ suc (pred c) = omega arith in
        rw e (rw (le-ltb (pred c) p (omega arith)) at (others (pred c) (omega arith)))
  ]
]

module _ {K : Type 0} (F : Ops K) (L : HasFieldLaws F) where
  -- the multiple of v that the reductions of the rows of S take
  taken : (S : Table K) (v : ℕ → K) (s depth p : ℕ) (x : ℕ → ℕ → K) → K
  taken S v s depth p x = sum_of F s (λ i. sum_of F depth (λ j. F.neg (F.mul (x i j) (F.mul (S i j p) (F.inv (v p))))))

  -- a multiple of a reduced row
  reduced_multiple : (x r q v : K) → F.add (F.mul x r) (F.mul (F.neg (F.mul x q)) v) ≡ F.mul x (F.add r (F.neg (F.mul q v)))
  reduced_multiple x r q v =
      ap (F.add (F.mul x r)) (neg-mul F L (F.mul x q) v ∙ ap F.neg (L.mul_assoc x q v) ∙ sym (mul_neg F L x (F.mul q v)))
      ∙ sym (L.mul_add x r (F.neg (F.mul q v)))

  -- a combination of the rows and of v is one of the reduced rows
  full_reduced : (S : Table K) (v : ℕ → K) (s depth p : ℕ) (x : ℕ → ℕ → K) (c : ℕ)
      → F.add (full F S s depth x c) (F.mul (taken S v s depth p x) (v c)) ≡ full F (λ i j. reduced F v p (S i j)) s depth x c
  unfolding taken
  full_reduced S v s depth p x c =
      ap (F.add (full F S s depth x c)) (L.mul_comm _ _ ∙ sym (sum_mul F L s _ _) ∙ sum_cong F s _ _ (λ i h. sym (sum_mul F L depth _ _)))
      ∙ sym (sum_add F L s _ _)
      ∙ sum_cong F s _ _ (λ i h. sym (sum_add F L depth _ _) ∙ sum_cong F depth _ _ (λ j g.
      ap (F.add (F.mul (x i j) (S i j c))) (L.mul_comm _ _) ∙ reduced_multiple (x i j) (S i j c) (F.mul (S i j p) (F.inv (v p))) (v c)))

  -- a reduced row is zero in column p
  reduced_pivot : (v r : ℕ → K) (p : ℕ) → v p ≢ F.null → reduced F v p r p ≡ F.null
  reduced_pivot v r p apart =
      ap (λ y. F.add (r p) (F.neg y))
      (L.mul_assoc (r p) (F.inv (v p)) (v p) ∙ ap (F.mul (r p)) (L.mul_comm (F.inv (v p)) (v p) ∙ L.mul_inv (v p) apart) ∙ L.mul_one (r p))
      ∙ L.add_neg (r p)

  -- the reduced rows without column p have the distance that the rows have modulo v
  reduced_distance : (S : Table K) (v : ℕ → K) (s depth m p k : ℕ) → p < suc m → v p ≢ F.null → HasDistanceModulo F S v s depth (suc m) k
      → HasDistance F (λ i j c. reduced F v p (S i j) (skip p c)) s depth m (pred k)
  reduced_distance S v s depth m p k within apart modulo d le size x w z = elim (cases_lt 0 k) [
    | inl some ↦
        modulo d le (omega arith) x (taken S v s depth p x) w
        (skip_cases (λ c. F.add (full F S s depth x c) (F.mul (taken S v s depth p x) (v c)) ≡ F.null) p m within
        (full_reduced S v s depth p x p ∙ full_null F L (λ i j. reduced F v p (S i j)) s depth x p (λ i j hi hj.
        ap (F.mul (x i j)) (reduced_pivot v (S i j) p apart) ∙ mul_null F L (x i j)))
        (λ c h. full_reduced S v s depth p x (skip p c) ∙ z c h))
    | inr none ↦ λ i j h. w i j h (omega (arith, size_at s d i h))
  ]

  -- the coordinates but the first have the distance of all coordinates, modulo row 0 of the first
  dropped_modulo : (R : Table K) (s depth m k : ℕ) → HasDistance F R (suc s) (suc depth) m k
      → HasDistanceModulo F (λ i. R (suc i)) (R 0 0) s (suc depth) m k
  dropped_modulo R s depth m k st d le size x y w z i j h =
      st (before 1 d) (elim [ zero ↦ λ h. omega arith | suc i ↦ λ h. le i (omega arith) ]) (omega (arith, size_first s (before 1 d))) b
      (elim [ zero ↦ (elim [ zero ↦ λ h g. absurd (omega arith) | suc j ↦ λ h g. refl ]) | suc i ↦ λ j h g. w i j (omega arith) g ])
      (λ c g. total c ∙ z c g) (suc i) j (omega arith)
    where
      -- the coefficients x, and y for v
      b : ℕ → ℕ → K
      b = before (before y (λ j. F.null)) x

      -- a combination of all rows is one of the coordinates but the first, and y times v
      total : (c : ℕ) → full F R (suc s) (suc depth) b c ≡ F.add (full F (λ i. R (suc i)) s (suc depth) x c) (F.mul y (R 0 0 c))
      total c =
          sum_first F L s _
          ∙ ap (λ u. F.add u (full F (λ i. R (suc i)) s (suc depth) x c))
          (sum_one F L (suc depth) 0 (λ j. F.mul (b 0 j) (R 0 j c)) (omega arith)
          (elim [ zero ↦ λ h g. absurd (g refl) | suc j ↦ λ h g. null_mul F L (R 0 (suc j) c) ]))
          ∙ L.add_comm _ _

  -- the remaining rows have the distance of all rows, modulo row 0 of coordinate 0
  kept_modulo : (R : Table K) (s depth m k : ℕ) → HasDistance F R (suc s) (suc depth) m k
      → HasDistanceModulo F (λ i j. R i (remaining_row i j)) (R 0 0) (suc s) depth m k
  kept_modulo R s depth m k st d le size x y w z i j h =
      from_b i j h (st (before (suc (d 0)) (λ i. d (suc i)))
      (elim [ zero ↦ λ h. omega (arith, le 0 (omega arith)) | suc i ↦ λ h. omega (arith, le (suc i) h) ])
      (omega (arith, size_first s (before (suc (d 0)) (λ i. d (suc i))), size_first s d)) b
      (elim [
        | zero ↦ (elim [ zero ↦ λ h g. absurd (omega arith) | suc j ↦ λ h g. w 0 j h (omega arith) ])
        | suc i ↦ λ j h g. w (suc i) j h g
      ])
      (λ c g. total c ∙ z c g))
    where
      -- the coefficients x, and y for v
      b : ℕ → ℕ → K
      b = before (before y (x 0)) (λ i. x (suc i))

      -- each coefficient in x is one in b
      from_b : (i j : ℕ) → i < suc s → ((i j : ℕ) → i < suc s → b i j ≡ F.null) → x i j ≡ F.null
      from_b = elim [ zero ↦ λ j h f. f 0 (suc j) h | suc i ↦ λ j h f. f (suc i) j h ]

      -- the last row of the other coordinates has the coefficient zero
      short : (i c : ℕ) → i < s
          → sum_of F (suc depth) (λ j. F.mul (x (suc i) j) (R (suc i) j c)) ≡ sum_of F depth (λ j. F.mul (x (suc i) j) (R (suc i) j c))
      short i c h =
          ap (F.add (sum_of F depth (λ j. F.mul (x (suc i) j) (R (suc i) j c))))
          (ap (λ u. F.mul u (R (suc i) depth c)) (w (suc i) depth (omega arith) (le (suc i) (omega arith))) ∙ null_mul F L (R (suc i) depth c))
          ∙ L.add_null _

      -- a combination of all rows is one of the remaining rows, and y times v
      total : (c : ℕ) → full F R (suc s) (suc depth) b c ≡ F.add (full F (λ i j. R i (remaining_row i j)) (suc s) depth x c) (F.mul y (R 0 0 c))
      total c =
          sum_first F L s _
          ∙ ap₂ F.add (sum_first F L depth _) (sum_cong F s _ _ (λ i h. short i c h))
          ∙ L.add_assoc _ _ _
          ∙ L.add_comm _ _
          ∙ ap (λ u. F.add u (F.mul y (R 0 0 c))) (sym (sum_first F L s _))

  -- the remaining rows modulo row 0 of coordinate 0 lose at most one from the strength
  pub kept_strength : (R : Table K) (s depth m p k : ℕ) → p < m → R 0 0 p ≢ F.null → HasStrength F R s depth m k
      → HasStrength F (kept F R p) s (depth - 1) (m - 1) (k - 1)
  kept_strength R zero depth m p k within apart st = λ d le size x z i j h g. absurd (omega arith)
  kept_strength R (suc s) zero m p k within apart st = λ d le size x z i j h g. absurd (omega (arith, le i h))
  kept_strength R (suc s) (suc depth) zero p k within apart st = absurd (omega arith)
  kept_strength R (suc s) (suc depth) (suc m) p k within apart st =
      simp sub-one (strength_from_distance F L (kept F R p) (suc s) depth m (pred k)
      (reduced_distance (λ i j. R i (remaining_row i j)) (R 0 0) (suc s) depth m p k within apart
      (kept_modulo R s depth (suc m) k (distance_from_strength F L R (suc s) (suc depth) (suc m) k st))))

  -- the coordinates but the first, modulo row 0 of the first, lose at most one from the strength
  pub dropped_strength : (R : Table K) (s depth m p k : ℕ) → p < m → R 0 0 p ≢ F.null → HasStrength F R s depth m k
      → HasStrength F (dropped F R p) (s - 1) depth (m - 1) (k - 1)
  dropped_strength R zero depth m p k within apart st = λ d le size x z i j h g. absurd (omega arith)
  dropped_strength R (suc s) zero m p k within apart st = λ d le size x z i j h g. absurd (omega (arith, le i h))
  dropped_strength R (suc s) (suc depth) zero p k within apart st = absurd (omega arith)
  dropped_strength R (suc s) (suc depth) (suc m) p k within apart st =
      simp sub-one (strength_from_distance F L (dropped F R p) s (suc depth) m (pred k)
      (reduced_distance (λ i. R (suc i)) (R 0 0) s (suc depth) m p k within apart
      (dropped_modulo R s depth (suc m) k (distance_from_strength F L R (suc s) (suc depth) (suc m) k st))))
