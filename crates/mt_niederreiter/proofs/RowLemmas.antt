-- The rows of one monic polynomial p of degree e over any field, without end: row Q * e + u, for u < e, is the expansion of x^u / p^(Q + 1).
use Rattle.std.proofs.Common.{◌≡◌, ℕ, zero, suc, ◌+◌, ◌*◌, ◌-◌, ◌/◌, ◌%◌, ◌<◌, List, [], ◌∷◌, inl, inr, sym, ap, ap₂, ◌∙◌, subst, arith, mul-one, one-add, mod-eq_of_lt}
use Rattle.std.proofs.Math.Nat.{add-mod_left, mul-add-div}
use Rattle.std.proofs.lemmas.Bool.{cases_lt}
use Rattle.std.proofs.lemmas.Nat.{div_below, mod_below, div-add-mod'}
use Rattle.mt_linear.proofs.Abstract.{Ops, HasFieldLaws, sum_of, sum_null, null_add, mul_null}
use Rattle.mt_linear.proofs.Sums.{null_mul}
use Rattle.mt_poly.proofs.Action.{poly_power, act, Kills, mark_else, act_cong, act_null, act_combination, act_shifts, act_one, act_mul}
use Rattle.mt_poly.proofs.Monic.{HasDegree, monic_power}
use Rattle.mt_niederreiter.proofs.Expansion.{IsExpansion, expansion, expansion_is, expansion_low, expansion_lead, expansion_shift}

-- x^u / p^(Q + 1), behind its zeros
abbrev pub fraction : {K : Type 0} → Ops K → List K → ℕ → ℕ → ℕ → ℕ → K
fraction F p e Q u = expansion F (poly_power F p (suc Q)) (suc Q * e) u

abbrev pub row : {K : Type 0} → Ops K → List K → ℕ → ℕ → ℕ → K
row F p e j l = fraction F p e (j / e) (j % e) (suc (j / e) * e + l)

module _ {K : Type 0} (F : Ops K) (L : HasFieldLaws F) (p : List K) (e : ℕ) (degree : HasDegree F p e) (positive : 0 < e) where
  pub fraction_is : (Q u : ℕ) → IsExpansion F (poly_power F p (suc Q)) (suc Q * e) u (fraction F p e Q u)
  fraction_is Q u =
      let n : suc Q * e ≡ e + Q * e = omega arith in
      expansion_is F L (poly_power F p (suc Q)) (suc Q * e) u (monic_power F L p e degree (suc Q)) (omega arith)

  -- the first e rows
  first : (j : ℕ) → j < e → (l : ℕ) → row F p e j l ≡ fraction F p e 0 j (1 * e + l)
  first j h l =
      let k : j / e < 1 = div_below j e 1 positive (omega arith) in
      ap₂ (λ Q u. fraction F p e Q u (suc Q * e + l)) {x = j / e} {y = 0} {u = j % e} {v = j} (omega arith) (mod-eq_of_lt h)

  row_zero : (j l : ℕ) → j < e → l + suc j < e → row F p e j l ≡ F.null
  row_zero j l h g =
      first j h l
      ∙ expansion_low F L (poly_power F p 1) (1 * e) j (monic_power F L p e degree 1) (fraction F p e 0 j) (fraction_is 0 j) (1 * e + l) (omega arith)

  row_one : (j : ℕ) → j < e → row F p e j (e - suc j) ≡ F.one
  row_one j h =
      first j h (e - suc j)
      ∙ ap (fraction F p e 0 j) (omega arith)
      ∙ expansion_lead F L (poly_power F p 1) (1 * e) j (monic_power F L p e degree 1) (fraction F p e 0 j) (fraction_is 0 j)

  row_low : (j : ℕ) → j < e → Kills F p (row F p e j)
  row_low j h l =
      act_cong F L p _ _ (first j h) l
      ∙ act_shifts F L p (1 * e) (fraction F p e 0 j) l
      ∙ sym (act_mul F L (F.one ∷ []) p (fraction F p e 0 j) (1 * e + l) ∙ act_one F L (act F p (fraction F p e 0 j)) (1 * e + l))
      ∙ (fraction_is 0 j).product (1 * e + l)
      ∙ mark_else F (1 * e - suc j) (1 * e + l) (λ q. omega arith)

  row_next : (j l : ℕ) → act F p (row F p e (e + j)) l ≡ row F p e j l
  row_next j l =
      act_cong F L p _ _ (λ i.
      ap₂ (λ Q u. fraction F p e Q u (suc Q * e + i))
      (ap (λ k. (k + j) / e) (sym (mul-one e)) ∙ mul-add-div positive 1 j ∙ one-add (j / e)) (add-mod_left e j)) l
      ∙ next (j / e) (j % e) (mod_below j e positive)
    where
      next : (Q u : ℕ) → u < e → act F p (λ i. fraction F p e (suc Q) u (suc (suc Q) * e + i)) l ≡ fraction F p e Q u (suc Q * e + l)
      next Q u h =
          let n : suc (suc Q) * e ≡ suc Q * e + e = omega arith in
          let k : suc Q * e ≡ e + Q * e = omega arith in
          act_shifts F L p (suc (suc Q) * e) (fraction F p e (suc Q) u) l
          ∙ ap (act F p (fraction F p e (suc Q) u)) (omega arith)
          ∙ expansion_shift F L (poly_power F p (suc Q)) p (suc Q * e) e u
          (monic_power F L p e degree (suc Q)) degree (omega arith) (omega arith) (fraction F p e Q u) (fraction F p e (suc Q) u) (fraction_is Q u)
          (subst (λ k. IsExpansion F (poly_power F p (suc (suc Q))) k u (fraction F p e (suc Q) u)) n (fraction_is (suc Q) u)) (suc Q * e + l)

  -- p^n kills the first n * e rows, and takes each later one n * e rows back
  pub row_kill : (n j : ℕ) → j < n * e → Kills F (poly_power F p n) (row F p e j)
  row_kill zero j h l = absurd (omega arith)
  row_kill (suc n) j h l = act_mul F L (poly_power F p n) p (row F p e j) l ∙ elim (cases_lt j e) [
    | inl k ↦ act_null F L (poly_power F p n) _ (row_low j k) l
    | inr k ↦
        act_cong F L (poly_power F p n) _ _ (λ i. ap (λ y. act F p (row F p e y) i) (omega arith) ∙ row_next (j - e) i) l
        ∙ row_kill n (j - e) (omega arith) l
  ]

  row_back : (n j l : ℕ) → act F (poly_power F p n) (row F p e (n * e + j)) l ≡ row F p e j l
  row_back zero j l = act_one F L (row F p e (0 * e + j)) l ∙ ap (λ i. row F p e i l) {x = 0 * e + j} {y = j} (omega arith)
  row_back (suc n) j l =
      act_mul F L (poly_power F p n) p _ l
      ∙ act_cong F L (poly_power F p n) _ _ (λ i. ap (λ y. act F p (row F p e y) i) (omega arith) ∙ row_next (n * e + j) i) l
      ∙ row_back n j l

  -- term e - u - 1 of p^Q times row d, where d = Q * e + u, is 1, and of the rows before it 0
  before_zero : (d j : ℕ) → j < d → act F (poly_power F p (d / e)) (row F p e j) (e - suc (d % e)) ≡ F.null
  before_zero d j h =
      let split : d / e * e + d % e ≡ d = div-add-mod' d e in
      let low : d % e < e = mod_below d e positive in
      elim (cases_lt j (d / e * e)) [
        | inl k ↦ row_kill (d / e) j k (e - suc (d % e))
        | inr k ↦
            ap (λ i. act F (poly_power F p (d / e)) (row F p e i) (e - suc (d % e))) (omega arith)
            ∙ row_back (d / e) (j - d / e * e) (e - suc (d % e))
            ∙ row_zero (j - d / e * e) (e - suc (d % e)) (omega arith) (omega arith)
      ]

  own_one : (d : ℕ) → act F (poly_power F p (d / e)) (row F p e d) (e - suc (d % e)) ≡ F.one
  own_one d =
      ap (λ i. act F (poly_power F p (d / e)) (row F p e i) (e - suc (d % e))) (sym (div-add-mod' d e))
      ∙ row_back (d / e) (d % e) (e - suc (d % e))
      ∙ row_one (d % e) (mod_below d e positive)

  -- no combination of the rows is zero
  pub row_free : (d : ℕ) (a : ℕ → K) → ((l : ℕ) → sum_of F d (λ j. F.mul (a j) (row F p e j l)) ≡ F.null) → (j : ℕ) → j < d → a j ≡ F.null
  row_free zero a z j h = absurd (omega arith)
  row_free (suc d) a z j h = elim (cases_lt j d) [
    | inl k ↦ row_free d a others j k
    | inr k ↦ ap a (omega arith) ∙ last
  ]
    where
      last : a d ≡ F.null
      last =
          sym (
          ap₂ F.add
          (sum_null F L d _ (λ j g. ap (F.mul (a j)) (before_zero d j g) ∙ mul_null F L (a j)))
          (ap (F.mul (a d)) (own_one d) ∙ L.mul_one (a d))
          ∙ null_add F L (a d))
          ∙ sym (act_combination F L (poly_power F p (d / e)) (suc d) a (row F p e) (e - suc (d % e)))
          ∙ act_null F L (poly_power F p (d / e)) _ z (e - suc (d % e))

      others : (l : ℕ) → sum_of F d (λ j. F.mul (a j) (row F p e j l)) ≡ F.null
      others l =
          sym (L.add_null _)
          ∙ ap (F.add (sum_of F d (λ j. F.mul (a j) (row F p e j l)))) (sym (ap (λ y. F.mul y (row F p e d l)) last ∙ null_mul F L (row F p e d l)))
          ∙ z l
