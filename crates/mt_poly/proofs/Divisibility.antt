-- Divisors of polynomials over any field.
use Rattle.std.proofs.Common.{◌≡◌, ◌≢◌, ℕ, zero, suc, ◌+◌, ◌-◌, ◌<◌, ◌≤◌, ◌⊎◌, inl, inr, refl, sym, ap, ap₂, ◌∙◌, arith, List, [], ◌∷◌, get_or}
use Rattle.std.proofs.lemmas.Bool.{cases_eq}
use Rattle.std.proofs.lemmas.List.{get_or_past}
use Rattle.mt_linear.proofs.Abstract.{Ops, HasFieldLaws, sum_null, null_add, mul_null}
use Rattle.mt_linear.proofs.Sums.{null_mul, neg-mul, add_swap}
use Rattle.mt_poly.proofs.Action.{poly_add, poly_scale, poly_mul, act, act_cong, act_add, act-poly_add, act-poly_scale, act_mul, act_comm, act_same, same_by_act, coef_add, coef_scale, coef_mul}
use Rattle.mt_poly.proofs.Monic.{HasTop, top_mul}

-- 1, times polynomials
abbrev pub poly_product : {K : Type 0} → Ops K → List (List K) → List K
poly_product F [] = F.one ∷ []
poly_product F (p ∷ ps) = poly_mul F p (poly_product F ps)

-- p is a product with d
abbrev pub Divides : {K : Type 0} → Ops K → List K → List K → Type 0
Divides {K} F d p = (a : List K) × ((w : ℕ → K) (l : ℕ) → act F p w l ≡ act F a (act F d w) l)

module _ {K : Type 0} (F : Ops K) (L : HasFieldLaws F) where
  pub divides_product : (d p q : List K) → Divides F d q → Divides F d (poly_mul F p q)
  divides_product d p q (a, e) =
      (poly_mul F p a, λ w l. act_mul F L p q w l ∙ act_cong F L p _ _ (e w) l ∙ sym (act_mul F L p a (act F d w) l))

  pub divides_factor : (d p q : List K) → Divides F d p → Divides F d (poly_mul F p q)
  divides_factor d p q h =
      let m : Divides F d (poly_mul F q p) = divides_product d q p h in
      (m.0, λ w l. act_mul F L p q w l ∙ act_comm F L p q w l ∙ sym (act_mul F L q p w l) ∙ m.1 w l)

  -- p is q and a times r
  pub divides_sum : (d p q r : List K) (a : K) → Divides F d q → Divides F d r
      → ((w : ℕ → K) (l : ℕ) → act F p w l ≡ F.add (act F q w l) (F.mul a (act F r w l))) → Divides F d p
  divides_sum d p q r a (s, e) (t, f) h = (
    poly_add F s (poly_scale F a t),
    λ w l.
        h w l
        ∙ ap₂ F.add (e w l) (ap (F.mul a) (f w l))
        ∙ sym (act-poly_add F L s (poly_scale F a t) (act F d w) l ∙ ap (F.add (act F s (act F d w) l)) (act-poly_scale F L a t (act F d w) l)),
  )

  -- ---- the last coefficient that is not zero

  pub no_divisors : (x y : K) → x ≢ F.null → F.mul x y ≡ F.null → y ≡ F.null
  no_divisors x y h e =
      sym (L.mul_one y) ∙ L.mul_comm y F.one ∙ ap (λ w. F.mul w y) (sym (L.mul_inv x h) ∙ L.mul_comm x (F.inv x))
      ∙ L.mul_assoc (F.inv x) x y ∙ ap (F.mul (F.inv x)) e ∙ mul_null F L (F.inv x)

  abbrev Shape : List K → Type 0
  Shape p = ((i : ℕ) → get_or p i F.null ≡ F.null) ⊎ ((n : ℕ) × (c : K) × (c ≢ F.null) × HasTop F p n c)

  cons_shape : (x : K) (p : List K) → Shape p → Shape (x ∷ p)
  cons_shape x p (inl z) = elim (L.is_null x) [
    | inl e ↦ inl (all_null e)
    | inr h ↦ inr (0, x, h, record { here = refl; above = after })
  ]
    where
      all_null : x ≡ F.null → (i : ℕ) → get_or (x ∷ p) i F.null ≡ F.null
      all_null e zero = e
      all_null e (suc i) = z i

      after : (i : ℕ) → 0 < i → get_or (x ∷ p) i F.null ≡ F.null
      after zero h = absurd (omega arith)
      after (suc i) h = z i
  cons_shape x p (inr (n, c, h, t)) = inr (suc n, c, h, record { here = t.here; above = after })
    where
      after : (i : ℕ) → suc n < i → get_or (x ∷ p) i F.null ≡ F.null
      after zero h = absurd (omega arith)
      after (suc i) h = t.above i (omega arith)

  shape : (p : List K) → Shape p
  shape [] = inl (λ i. refl)
  shape (x ∷ p) = cons_shape x p (shape p)

  one_at : (i : ℕ) → 1 ≤ i → get_or (F.one ∷ []) i F.null ≡ F.null
  one_at i h = get_or_past (F.one ∷ []) i F.null h

  -- a divisor of 1 is a constant
  pub unit_constant : (d : List K) → Divides F d (F.one ∷ []) → (n : ℕ) → 1 ≤ n → get_or d n F.null ≡ F.null
  unit_constant d (a, e) n h = go (shape a) (shape d)
    where
      same : (i : ℕ) → get_or (F.one ∷ []) i F.null ≡ get_or (poly_mul F a d) i F.null
      same = same_by_act F L (F.one ∷ []) (poly_mul F a d) (λ w l. e w l ∙ sym (act_mul F L a d w l))

      not_null : ((i : ℕ) → i < 1 → F.mul (get_or a i F.null) (get_or d (0 - i) F.null) ≡ F.null) → ⊥
      not_null z = L.one_apart (same 0 ∙ coef_mul F L a d 0 ∙ sum_null F L 1 _ z)

      go : Shape a → Shape d → get_or d n F.null ≡ F.null
      go s (inl z) = z n
      go (inl z) (inr t) = absurd (not_null (λ i g. ap (λ y. F.mul y (get_or d (0 - i) F.null)) (z i) ∙ null_mul F L _))
      go (inr (k, b, hb, s)) (inr (m, c, hc, t)) = elim (cases_eq m 0) [
        | inl z ↦ t.above n (omega arith)
        | inr ne ↦
            absurd (hc (no_divisors b c hb
            (sym (top_mul F L a d k m b c s t).here ∙ sym (same (k + m)) ∙ one_at (k + m) (omega arith))))
      ]

  -- ---- division

  -- one coefficient more: c times D is taken from what is left
  pub divide_step : (D N Q R S : List K) (x c : K)
      → ((w : ℕ → K) (l : ℕ) → act F N w l ≡ F.add (act F Q (act F D w) l) (act F R w l))
      → ((i : ℕ) → get_or S i F.null ≡ F.add (get_or (x ∷ R) i F.null) (F.mul (F.neg c) (get_or D i F.null)))
      → (w : ℕ → K) (l : ℕ) → act F (x ∷ N) w l ≡ F.add (act F (c ∷ Q) (act F D w) l) (act F S w l)
  divide_step D N Q R S x c e s w l =
      ap (F.add (F.mul x (w l))) (e w (suc l))
      ∙ regroup (F.mul x (w l)) (act F Q (act F D w) (suc l)) (act F R w (suc l)) (F.mul c (act F D w l))
      ∙ ap (F.add (act F (c ∷ Q) (act F D w) l)) (sym rest)
    where
      regroup : (X Y Z W : K) → F.add X (F.add Y Z) ≡ F.add (F.add W Y) (F.add (F.add X Z) (F.neg W))
      regroup X Y Z W =
          sym (ap (F.add (F.add W Y)) (L.add_comm (F.add X Z) (F.neg W))
          ∙ add_swap F L W Y (F.neg W) (F.add X Z)
          ∙ ap (λ y. F.add y (F.add Y (F.add X Z))) (L.add_neg W)
          ∙ null_add F L (F.add Y (F.add X Z))
          ∙ sym (L.add_assoc Y X Z)
          ∙ ap (λ y. F.add y Z) (L.add_comm Y X)
          ∙ L.add_assoc X Y Z)

      rest : act F S w l ≡ F.add (act F (x ∷ R) w l) (F.neg (F.mul c (act F D w l)))
      rest =
          act_same F L S (poly_add F (x ∷ R) (poly_scale F (F.neg c) D)) (λ i.
          s i
          ∙ sym (coef_add F L (x ∷ R) (poly_scale F (F.neg c) D) i
          ∙ ap (F.add (get_or (x ∷ R) i F.null)) (coef_scale F L (F.neg c) D i))) w l
          ∙ act-poly_add F L (x ∷ R) (poly_scale F (F.neg c) D) w l
          ∙ ap (F.add (act F (x ∷ R) w l)) (act-poly_scale F L (F.neg c) D w l ∙ neg-mul F L c _)

  -- ---- Euclid's step

  -- d = u * b + v * r and a = q * b + r give d = v * a + (u - v * q) * b
  pub gcd_step : (a b q r d u v t : List K)
      → ((w : ℕ → K) (l : ℕ) → act F a w l ≡ F.add (act F q (act F b w) l) (act F r w l))
      → ((w : ℕ → K) (l : ℕ) → act F d w l ≡ F.add (act F u (act F b w) l) (act F v (act F r w) l))
      → ((w : ℕ → K) (l : ℕ) → act F t w l ≡ F.add (act F u w l) (F.neg (act F v (act F q w) l)))
      → (w : ℕ → K) (l : ℕ) → act F d w l ≡ F.add (act F v (act F a w) l) (act F t (act F b w) l)
  gcd_step a b q r d u v t ea ed et w l =
      ed w l
      ∙ sym (ap₂ F.add
      (act_cong F L v _ _ (λ i. ea w i) l ∙ act_add F L v (act F q (act F b w)) (act F r w) l)
      (et (act F b w) l)
      ∙ cancel_out (act F v (act F q (act F b w)) l) (act F v (act F r w) l) (act F u (act F b w) l))
    where
      cancel_out : (X Y Z : K) → F.add (F.add X Y) (F.add Z (F.neg X)) ≡ F.add Z Y
      cancel_out X Y Z =
          ap (λ y. F.add y (F.add Z (F.neg X))) (L.add_comm X Y) ∙ add_swap F L Y X Z (F.neg X)
          ∙ ap (F.add (F.add Y Z)) (L.add_neg X) ∙ L.add_null _ ∙ L.add_comm Y Z
