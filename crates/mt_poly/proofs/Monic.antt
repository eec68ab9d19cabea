-- Monic polynomials over any field.
use Rattle.std.proofs.Common.{◌≡◌, ℕ, zero, suc, ◌+◌, ◌*◌, ◌-◌, ◌<◌, List, [], ◌∷◌, get_or, inl, inr, refl, sym, ap, ap₂, ◌∙◌, subst, arith}
use Rattle.std.proofs.lemmas.Bool.{cases_lt}
use Rattle.std.proofs.lemmas.List.{get_or_past}
use Rattle.mt_linear.proofs.Abstract.{Ops, HasFieldLaws, sum_of, sum_null, sum_cong, null_add, cancel, mul_null}
use Rattle.mt_linear.proofs.Sums.{null_mul, sum_one}
use Rattle.mt_poly.proofs.Action.{poly_mul, poly_power, act, Kills, one_mul, act-terms, act_null, coef_mul}

-- coefficient n is c, and those after it are zero
pub record HasTop {K : Type 0} (F : Ops K) (p : List K) (n : ℕ) (c : K) : Type 0 where
  pub here : get_or p n F.null ≡ c
  pub above : (i : ℕ) → n < i → get_or p i F.null ≡ F.null

-- monic of degree n
abbrev pub HasDegree : {K : Type 0} → Ops K → List K → ℕ → Type 0
HasDegree F p n = HasTop F p n F.one

module _ {K : Type 0} (F : Ops K) (L : HasFieldLaws F) where
  -- the leading term of the action apart
  pub monic-act : (p : List K) (n : ℕ) → HasDegree F p n → (w : ℕ → K) (l : ℕ)
      → act F p w l ≡ F.add (sum_of F n (λ j. F.mul (get_or p j F.null) (w (l + j)))) (w (l + n))
  monic-act p n h w l =
      act-terms F L p (suc n) w l (λ j g. ap (λ y. F.mul y (w (l + j))) (h.above j g) ∙ null_mul F L (w (l + j)))
      ∙ ap (F.add (sum_of F n (λ j. F.mul (get_or p j F.null) (w (l + j)))))
      (ap (λ y. F.mul y (w (l + n))) h.here ∙ one_mul F L (w (l + n)))

  -- where the lower terms are zero
  pub monic_lead : (p : List K) (n : ℕ) → HasDegree F p n → (w : ℕ → K) (l : ℕ) → ((j : ℕ) → j < n → w (l + j) ≡ F.null) → act F p w l ≡ w (l + n)
  monic_lead p n h w l z =
      monic-act p n h w l
      ∙ ap (λ y. F.add y (w (l + n))) (sum_null F L n _ (λ j g. ap (F.mul (get_or p j F.null)) (z j g) ∙ mul_null F L (get_or p j F.null)))
      ∙ null_add F L (w (l + n))

  same_below : (p : List K) (n len : ℕ) → HasDegree F p n → (w v : ℕ → K) → ((j : ℕ) → j < n → w j ≡ v j)
      → ((l : ℕ) → l + n < len → act F p w l ≡ act F p v l) → (b l : ℕ) → l < b → l < len → w l ≡ v l
  same_below p n len h w v first same zero l g k = absurd (omega arith)
  same_below p n len h w v first same (suc b) l g k = elim (cases_lt l n) [
    | inl low ↦ first l low
    | inr high ↦
        let e : l - n + n ≡ l = omega arith in
        subst (λ i. w i ≡ v i) e
        (next (l - n) (λ j q. same_below p n len h w v first same b (l - n + j) (omega arith) (omega arith)) (same (l - n) (omega arith)))
  ]
    where
      next : (l : ℕ) → ((j : ℕ) → j < n → w (l + j) ≡ v (l + j)) → act F p w l ≡ act F p v l → w (l + n) ≡ v (l + n)
      next l before e =
          cancel F L (w (l + n)) (v (l + n)) (sum_of F n (λ j. F.mul (get_or p j F.null) (v (l + j))))
          (L.add_comm _ _
          ∙ ap (λ y. F.add y (w (l + n))) (sum_cong F n _ _ (λ j q. ap (F.mul (get_or p j F.null)) (sym (before j q))))
          ∙ sym (monic-act p n h w l)
          ∙ e
          ∙ monic-act p n h v l
          ∙ L.add_comm _ _)

  -- sequences with the same first n terms are the same as far as p times them is
  pub monic_same : (p : List K) (n len : ℕ) → HasDegree F p n → (w v : ℕ → K) → ((j : ℕ) → j < n → w j ≡ v j)
      → ((l : ℕ) → l + n < len → act F p w l ≡ act F p v l) → (l : ℕ) → l < len → w l ≡ v l
  monic_same p n len h w v first same l k = same_below p n len h w v first same (suc l) l (omega arith) k

  -- a sequence that is killed is zero where its first terms are
  pub monic_zero : (p : List K) (n : ℕ) → HasDegree F p n → (w : ℕ → K) → Kills F p w → ((j : ℕ) → j < n → w j ≡ F.null) → (l : ℕ) → w l ≡ F.null
  monic_zero p n h w k first l =
      monic_same p n (suc l) h w (λ i. F.null) first (λ i g. k i ∙ sym (act_null F L p (λ i. F.null) (λ i. refl) i)) l (omega arith)

  pub top_mul : (p q : List K) (n m : ℕ) (c d : K) → HasTop F p n c → HasTop F q m d → HasTop F (poly_mul F p q) (n + m) (F.mul c d)
  top_mul p q n m c d s t = record {
    here =
        coef_mul F L p q (n + m)
        ∙ sum_one F L (suc (n + m)) n _ (omega arith) (λ i h ne. elim (cases_lt i n) [
          | inl g ↦ ap (F.mul (get_or p i F.null)) (t.above (n + m - i) (omega arith)) ∙ mul_null F L _
          | inr g ↦ ap (λ y. F.mul y (get_or q (n + m - i) F.null)) (s.above i (omega arith)) ∙ null_mul F L _
        ])
        ∙ ap₂ F.mul s.here (ap (λ j. get_or q j F.null) {x = n + m - n} {y = m} (omega arith) ∙ t.here);
    above = λ k h.
        coef_mul F L p q k
        ∙ sum_null F L (suc k) _ (λ i g. elim (cases_lt n i) [
          | inl l ↦ ap (λ y. F.mul y (get_or q (k - i) F.null)) (s.above i l) ∙ null_mul F L _
          | inr l ↦ ap (F.mul (get_or p i F.null)) (t.above (k - i) (omega arith)) ∙ mul_null F L _
        ]);
  }

  pub monic_one : HasDegree F (F.one ∷ []) 0
  monic_one = record { here = refl; above = λ i g. get_or_past (F.one ∷ []) i F.null g }

  pub monic_mul : (p q : List K) (n k : ℕ) → HasDegree F p n → HasDegree F q k → HasDegree F (poly_mul F p q) (n + k)
  monic_mul p q n k h g = subst (HasTop F (poly_mul F p q) (n + k)) (L.mul_one F.one) (top_mul p q n k F.one F.one h g)

  pub monic_power : (p : List K) (e : ℕ) → HasDegree F p e → (n : ℕ) → HasDegree F (poly_power F p n) (n * e)
  monic_power p e h zero = subst (HasDegree F (F.one ∷ [])) {x = 0} {y = 0 * e} (omega arith) monic_one
  monic_power p e h (suc n) =
      subst (HasDegree F (poly_power F p (suc n))) {x = n * e + e} {y = suc n * e} (omega arith)
      (monic_mul (poly_power F p n) p (n * e) e (monic_power p e h n) h)
