-- Two polynomials over any field have a common divisor that kills each sequence that both kill: Euclid's algorithm, from the constants up.
use Rattle.std.proofs.Common.{◌≡◌, ◌≢◌, ℕ, zero, suc, ◌+◌, ◌≤◌, max, List, [], ◌∷◌, length, inl, inr, refl, sym, ap, ap₂, ◌∙◌, arith}
use Rattle.std.proofs.lemmas.Bool.{cases_lt}
use Rattle.mt_linear.proofs.Abstract.{Ops, HasFieldLaws, mul_null}
use Rattle.mt_linear.proofs.Sums.{null_mul, neg-mul}
use Rattle.mt_poly.proofs.Action.{poly_add, poly_scale, act, Kills, act_cong, act_null, act_shift, act-poly_add, act-poly_scale, act_null-cons, act_one, act_comm}
use Rattle.mt_poly.proofs.Divisibility.{Divides, no_divisors}

-- it divides both, and kills what both kill
pub record CommonDivisor {K : Type 0} (F : Ops K) (p q : List K) : Type 0 where
  pub divisor : List K
  pub first : Divides F divisor p
  pub second : Divides F divisor q
  pub kills : (w : ℕ → K) → Kills F p w → Kills F q w → Kills F divisor w

module _ {K : Type 0} (F : Ops K) (L : HasFieldLaws F) where
  exchanged : (p q : List K) → CommonDivisor F p q → CommonDivisor F q p
  exchanged p q c = record { divisor = c.divisor; first = c.second; second = c.first; kills = λ w a b. c.kills w b a }

  pub divides_self : (p : List K) → Divides F p p
  divides_self p = (F.one ∷ [], λ w l. sym (act_one F L (act F p w) l))

  -- where p is x times r and c times q, and q has a constant, those of r and q are those of p and q
  step : (p r : List K) (y c : K) (q : List K) → y ≢ F.null
      → ((w : ℕ → K) (l : ℕ) → act F p w l ≡ F.add (act F r w (suc l)) (F.mul c (act F (y ∷ q) w l)))
      → CommonDivisor F r (y ∷ q) → CommonDivisor F p (y ∷ q)
  step p r y c q h e d = record {
    divisor = d.divisor;
    first = (poly_add F (F.null ∷ a) (poly_scale F c b), divides_first);
    second = d.second;
    kills = λ w s t. d.kills w (rest w s t) t;
  }
    where
      a : List K
      a = d.first.0

      b : List K
      b = d.second.0

      divides_first : (w : ℕ → K) (l : ℕ) → act F p w l ≡ act F (poly_add F (F.null ∷ a) (poly_scale F c b)) (act F d.divisor w) l
      divides_first w l =
          e w l
          ∙ ap₂ F.add
          (d.first.1 w (suc l) ∙ sym (act_null-cons F L a (act F d.divisor w) l))
          (ap (F.mul c) (d.second.1 w l) ∙ sym (act-poly_scale F L c b (act F d.divisor w) l))
          ∙ sym (act-poly_add F L (F.null ∷ a) (poly_scale F c b) (act F d.divisor w) l)

      -- r times w is zero but for its first term, and so there, where q reads that alone
      later : (w : ℕ → K) → Kills F p w → Kills F (y ∷ q) w → (l : ℕ) → act F r w (suc l) ≡ F.null
      later w s t l =
          sym (L.add_null _)
          ∙ ap (F.add (act F r w (suc l))) (sym (ap (F.mul c) (t l) ∙ mul_null F L c))
          ∙ sym (e w l)
          ∙ s l

      rest : (w : ℕ → K) → Kills F p w → Kills F (y ∷ q) w → Kills F r w
      rest w s t (suc l) = later w s t l
      rest w s t zero =
          no_divisors F L y (act F r w 0) h
          (sym (L.add_null _)
          ∙ ap (F.add (F.mul y (act F r w 0)))
          (sym (sym (act_shift F L q (act F r w) 0) ∙ act_null F L q (λ i. act F r w (suc i)) (later w s t) 0))
          ∙ act_comm F L (y ∷ q) r w 0
          ∙ act_null F L r (act F (y ∷ q) w) t 0)

  -- neither has a constant
  both : (p q : List K) → CommonDivisor F p q → CommonDivisor F (F.null ∷ p) (F.null ∷ q)
  both p q d = record {
    divisor = F.null ∷ d.divisor;
    first = (d.first.0, shifted p d.first);
    second = (d.second.0, shifted q d.second);
    kills = λ w s t l.
        act_null-cons F L d.divisor w l ∙ sym (act_shift F L d.divisor w l) ∙ d.kills (λ i. w (suc i)) (behind p w s) (behind q w t) l;
  }
    where
      behind : (r : List K) (w : ℕ → K) → Kills F (F.null ∷ r) w → Kills F r (λ i. w (suc i))
      behind r w s l = act_shift F L r w l ∙ sym (act_null-cons F L r w l) ∙ s l

      shifted : (r : List K) (t : Divides F d.divisor r) (w : ℕ → K) (l : ℕ) → act F (F.null ∷ r) w l ≡ act F t.0 (act F (F.null ∷ d.divisor) w) l
      shifted r t w l =
          act_null-cons F L r w l
          ∙ sym (act_shift F L r w l)
          ∙ t.1 (λ i. w (suc i)) l
          ∙ act_cong F L t.0 _ _ (λ i. act_shift F L d.divisor w i ∙ sym (act_null-cons F L d.divisor w i)) l

  length-scale : (c : K) (p : List K) → length (poly_scale F c p) ≡ length p
  length-scale c [] = refl
  length-scale c (x ∷ p) = ap suc (length-scale c p)

  length-add : (p q : List K) → length (poly_add F p q) ≡ max (length p) (length q)
  length-add [] q = omega arith
  length-add (x ∷ p) [] = omega arith
  length-add (x ∷ p) (y ∷ q) = omega (arith, length-add p q)

  -- p less the multiple of q with the same constant, divided by x
  less : K → List K → K → List K → List K
  less x p y q = poly_add F p (poly_scale F (F.neg (F.mul x (F.inv y))) q)

  length-less : (x : K) (p : List K) (y : K) (q : List K) → length (less x p y q) ≡ max (length p) (length q)
  unfolding less
  length-less x p y q = length-add p _ ∙ ap (max (length p)) (length-scale _ q)

  less_is : (x : K) (p : List K) (y : K) (q : List K) → y ≢ F.null → (w : ℕ → K) (l : ℕ)
      → act F (x ∷ p) w l ≡ F.add (act F (less x p y q) w (suc l)) (F.mul (F.mul x (F.inv y)) (act F (y ∷ q) w l))
  unfolding less
  less_is x p y q h w l = sym (
      ap₂ F.add
      (act-poly_add F L p (poly_scale F (F.neg c) q) w (suc l)
      ∙ ap (F.add (act F p w (suc l))) (act-poly_scale F L (F.neg c) q w (suc l) ∙ neg-mul F L c (act F q w (suc l))))
      (L.mul_add c (F.mul y (w l)) (act F q w (suc l)) ∙ ap (λ z. F.add z (F.mul c (act F q w (suc l)))) constant)
      ∙ regroup (act F p w (suc l)) (F.mul x (w l)) (F.mul c (act F q w (suc l))))
    where
      c : K
      c = F.mul x (F.inv y)

      constant : F.mul c (F.mul y (w l)) ≡ F.mul x (w l)
      constant =
          sym (L.mul_assoc c y (w l))
          ∙ ap (λ z. F.mul z (w l)) (L.mul_assoc x (F.inv y) y ∙ ap (F.mul x) (L.mul_comm (F.inv y) y ∙ L.mul_inv y h) ∙ L.mul_one x)

      regroup : (X Y Z : K) → F.add (F.add X (F.neg Z)) (F.add Y Z) ≡ F.add Y X
      regroup X Y Z =
          ap (F.add (F.add X (F.neg Z))) (L.add_comm Y Z)
          ∙ sym (L.add_assoc _ Z Y)
          ∙ ap (λ z. F.add z Y) (L.add_assoc X (F.neg Z) Z ∙ ap (F.add X) (L.add_comm (F.neg Z) Z ∙ L.add_neg Z) ∙ L.add_null X)
          ∙ L.add_comm X Y

  no_constant : (x : K) (p : List K) (y : K) (q : List K) → x ≡ F.null → (w : ℕ → K) (l : ℕ)
      → act F (x ∷ p) w l ≡ F.add (act F p w (suc l)) (F.mul F.null (act F (y ∷ q) w l))
  no_constant x p y q e w l =
      ap (λ z. act F (z ∷ p) w l) e ∙ act_null-cons F L p w l ∙ sym (L.add_null _) ∙ ap (F.add (act F p w (suc l))) (sym (null_mul F L _))

  -- by a bound on the sum of the lengths
  within : (b : ℕ) (p q : List K) → length p + length q ≤ b → CommonDivisor F p q
  within b [] q h = record { divisor = q; first = ([], λ w l. refl); second = divides_self q; kills = λ w s t. t }
  within b (x ∷ p) [] h = record { divisor = x ∷ p; first = divides_self (x ∷ p); second = ([], λ w l. refl); kills = λ w s t. s }
  within zero (x ∷ p) (y ∷ q) h = absurd (omega arith)
  within (suc b) (x ∷ p) (y ∷ q) h = elim (L.is_null x) [
    | inl e ↦ elim (L.is_null y) [
      | inl f ↦ rw (e, f) (both p q (within b p q (omega arith)))
      | inr g ↦ step (x ∷ p) p y F.null q g (no_constant x p y q e) (within b p (y ∷ q) (omega arith))
    ]
    | inr g ↦ elim (L.is_null y) [
      | inl f ↦ exchanged (y ∷ q) (x ∷ p) (step (y ∷ q) q x F.null p g (no_constant y q x p f) (within b q (x ∷ p) (omega arith)))
      | inr k ↦ elim (cases_lt (length p) (length q)) [
        | inl short ↦
            exchanged (y ∷ q) (x ∷ p)
            (step (y ∷ q) (less y q x p) x (F.mul y (F.inv x)) p g (less_is y q x p g)
            (within b (less y q x p) (x ∷ p) (omega (arith, length-less y q x p))))
        | inr long ↦
            step (x ∷ p) (less x p y q) y (F.mul x (F.inv y)) q k (less_is x p y q k)
            (within b (less x p y q) (y ∷ q) (omega (arith, length-less x p y q)))
      ]
    ]
  ]

  pub common_divisor : (p q : List K) → CommonDivisor F p q
  common_divisor p q = within (length p + length q) p q (omega arith)
