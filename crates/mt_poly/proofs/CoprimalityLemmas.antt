-- What Euclid's algorithm in place keeps: the divisors that both polynomials have.
use Rattle.std.proofs.Common.{◌≡◌, ◌≢◌, inl, inr, subst, Bool, ℕ, zero, suc, ◌+◌, ◌-◌, ◌<◌, ◌≤◌, ◌↔◌, List, [], ◌∷◌, length, slice_index, get_or, refl, sym, ap, ap₂, ◌∙◌, arith}
use Rattle.std.proofs.lemmas.Bool.{cases_lt}
use Rattle.std.proofs.lemmas.List.{get_or_past, nil_from_length}
use Rattle.std.specs.Bool.{IsTrue}
use Rattle.mt_linear.specs.declared.order.Order.{Order}
use Rattle.mt_linear.specs.Field.{number_of, add_of, mul_of, inv_of}
use Rattle.mt_linear.specs.Linear.{AllElements}
use Rattle.mt_linear.proofs.FieldLaws.{number_pos, mul_lt, mul_inv, mul_comm, mul_zero}
use Rattle.mt_linear.proofs.Combination.{zero_add}
use Rattle.mt_linear.proofs.Abstract.{Ops, HasFieldLaws, Digit, digit, digit-injective, digit-add, digit-mul, field_of, field_laws, mul_null}
use Rattle.mt_linear.proofs.Sums.{neg-mul}
use Rattle.mt_poly.specs.Polynomials.{IsPolynomial, IsCoprime, HaveSameDivisors, Divides as NumberDivides}
use Rattle.mt_poly.proofs.Action.{poly_add, poly_scale, act, act_null-cons, act-poly_add, act-poly_scale, coef_add, coef_scale}
use Rattle.mt_poly.proofs.Divisibility.{Divides, divides_sum, unit_constant}
use Rattle.mt_poly.proofs.CommonDivisors.{divides_self}
use Rattle.mt_poly.proofs.PolynomialBridge.{elements, acts, element_at, acts_of, multiple_to_act, divides_from, divides_to}

-- ---- a polynomial times a power of x

abbrev pub shifted : {K : Type 0} → Ops K → ℕ → List K → List K
shifted F zero p = p
shifted F (suc k) p = F.null ∷ shifted F k p

module _ {K : Type 0} (F : Ops K) (L : HasFieldLaws F) where
  divides_shifted : (d p : List K) (k : ℕ) → Divides F d p → Divides F d (shifted F k p)
  divides_shifted d p zero h = h
  divides_shifted d p (suc k) h =
      let (a, e) = divides_shifted d p k h in
      (F.null ∷ a, λ w l. act_null-cons F L (shifted F k p) w l ∙ e w (suc l) ∙ sym (act_null-cons F L a (act F d w) l))

  coef_below : (k : ℕ) (p : List K) (i : ℕ) → i < k → get_or (shifted F k p) i F.null ≡ F.null
  coef_below zero p i l = absurd (omega arith)
  coef_below (suc k) p zero l = refl
  coef_below (suc k) p (suc i) l = coef_below k p i (omega arith)

  coef_from : (k : ℕ) (p : List K) (i : ℕ) → get_or (shifted F k p) (k + i) F.null ≡ get_or p i F.null
  coef_from zero p i = ap (λ j. get_or p j F.null) (omega arith)
  coef_from (suc k) p i = ap (λ j. get_or (shifted F (suc k) p) j F.null) {x = suc k + i} {y = suc (k + i)} (omega arith) ∙ coef_from k p i

  -- a multiple goes to the other side
  back : (X Y Z c : K) → X ≡ F.add Y (F.mul c Z) → Y ≡ F.add X (F.mul (F.neg c) Z)
  back X Y Z c e = sym (
      ap₂ F.add e (neg-mul F L c Z)
      ∙ L.add_assoc Y (F.mul c Z) (F.neg (F.mul c Z))
      ∙ ap (F.add Y) (L.add_neg (F.mul c Z))
      ∙ L.add_null Y)

module _ (o : Order) where
  abbrev F : Ops (Digit (number_of o))
  F = field_of o

  abbrev L : HasFieldLaws (field_of o)
  L = field_laws o

  -- s is r, and c times b from place k on
  pub same_divisors : (k : ℕ) (r s b : List ℕ) (c : ℕ) → AllElements o r → AllElements o s
      → ((i : ℕ) → i < k → slice_index s i ≡ slice_index r i)
      → ((i : ℕ) → slice_index s (k + i) ≡ add_of o (slice_index r (k + i)) (mul_of o c (slice_index b i)))
      → HaveSameDivisors o b r s
  same_divisors k r s b c hr hs below from d hd h = (
    λ g. divides_from o d s hs (divides_sum F L (elements o d) (elements o s) (elements o r) B (digit o c) (divides_to o d r g) multiple sum),
    λ g. divides_from o d r hr
        (divides_sum F L (elements o d) (elements o r) (elements o s) B (F.neg (digit o c)) (divides_to o d s g) multiple
        (λ w l. back F L (acts o s w l) (acts o r w l) (act F B w l) (digit o c) (sum w l))),
  )
    where
      B : List (Digit (number_of o))
      B = shifted F k (elements o b)

      multiple : Divides F (elements o d) (shifted F k (elements o b))
      multiple = divides_shifted F L (elements o d) (elements o b) k (divides_to o d b h)

      coefficient : (n : ℕ) → digit o (slice_index s n) ≡ F.add (get_or (elements o r) n F.null) (F.mul (digit o c) (get_or (shifted F k (elements o b)) n F.null))
      coefficient n = elim (cases_lt n k) [
        | inl l ↦
            ap (digit o) (below n l) ∙ sym (element_at o r n) ∙ sym (L.add_null _)
            ∙ ap (F.add (get_or (elements o r) n F.null)) (sym (ap (F.mul (digit o c)) (coef_below F L k (elements o b) n l) ∙ mul_null F L (digit o c)))
        | inr l ↦
            subst (λ m. digit o (slice_index s m) ≡ F.add (get_or (elements o r) m F.null) (F.mul (digit o c) (get_or (shifted F k (elements o b)) m F.null)))
            {x = k + (n - k)} {y = n} (omega arith)
            (ap (digit o) (from (n - k)) ∙ digit-add o _ _
            ∙ ap₂ F.add (sym (element_at o r (k + (n - k))))
            (digit-mul o _ _ ∙ ap (F.mul (digit o c)) (sym (element_at o b (n - k)) ∙ sym (coef_from F L k (elements o b) (n - k)))))
      ]

      sum : (w : ℕ → Digit (number_of o)) (l : ℕ)
          → acts o s w l ≡ F.add (acts o r w l) (F.mul (digit o c) (act F (shifted F k (elements o b)) w l))
      sum w l =
          acts_of o s (poly_add F (elements o r) (poly_scale F (digit o c) B)) (λ n.
          coefficient n ∙ ap (F.add (get_or (elements o r) n F.null)) (sym (coef_scale F L (digit o c) B n))
          ∙ sym (coef_add F L (elements o r) (poly_scale F (digit o c) B) n)) w l
          ∙ act-poly_add F L (elements o r) (poly_scale F (digit o c) B) w l
          ∙ ap (F.add (acts o r w l)) (act-poly_scale F L (digit o c) B w l)

  pub same_trans : (b p r s : List ℕ) → HaveSameDivisors o b p r → HaveSameDivisors o b r s → HaveSameDivisors o b p s
  same_trans b p r s h g d hd k = (λ x. (g d hd k).0 ((h d hd k).0 x), λ x. (h d hd k).1 ((g d hd k).1 x))

  -- Euclid's step, where the divisor becomes the dividend
  pub coprime_step : (b p r : List ℕ) → HaveSameDivisors o b p r → IsCoprime o r b ↔ IsCoprime o b p
  coprime_step b p r same = (
    λ h d hd first second. h d hd ((same d hd first).0 second) first,
    λ h d hd first second. h d hd second ((same d hd second).1 first),
  )

  -- an answer for equal lists
  pub coprime_same : (y : Bool) (a p b r : List ℕ) → a ≡ p → b ≡ r → IsTrue y ↔ IsCoprime o a b → IsTrue y ↔ IsCoprime o p r
  coprime_same y a p b r e f h = subst (λ xs. IsTrue y ↔ IsCoprime o xs r) e (subst (λ xs. IsTrue y ↔ IsCoprime o a xs) f h)

  -- ---- where it ends

  pub divides_itself : (p : List ℕ) → AllElements o p → NumberDivides o p p
  divides_itself p h = divides_from o p p h (divides_self F L (elements o p))

  divides_zero : (p : List ℕ) → NumberDivides o p []
  divides_zero p = divides_from o p [] (λ k. number_pos o) ([], λ w l. refl)

  -- a divisor of a constant is a constant
  constant_divisor : (p d : List ℕ) → IsPolynomial o p → length p ≡ 1 → AllElements o d → NumberDivides o d p → (n : ℕ) → 1 ≤ n → slice_index d n ≡ 0
  constant_divisor p d hp size hd h n l =
      digit-injective o _ 0 (hd n) (number_pos o)
      (sym (element_at o d n)
      ∙ unit_constant F L (elements o d)
      (divides_sum F L (elements o d) (F.one ∷ []) [] (elements o p) (digit o s) ([], λ w l. refl) (divides_to o d p h)
      (multiple_to_act o [] p (1 ∷ []) s one)) n l)
    where
      s : ℕ
      s = inv_of o (get_or p 0 0)

      unit : mul_of o (inv_of o (get_or p 0 0)) (get_or p 0 0) ≡ 1
      unit =
          mul_comm o _ _
          ∙ mul_inv o (get_or p 0 0) (hp.elements 0) (subst (λ k. get_or p k 0 ≢ 0) {x = length p - 1} {y = 0} (omega arith) (hp.lead (omega arith)))

      one : (k : ℕ) → slice_index (1 ∷ []) k ≡ add_of o (slice_index [] k) (mul_of o (inv_of o (get_or p 0 0)) (slice_index p k))
      one zero = sym (zero_add o _ (mul_lt o _ _) ∙ unit)
      one (suc k) =
          sym (zero_add o _ (mul_lt o _ _) ∙ ap (mul_of o (inv_of o (get_or p 0 0))) (get_or_past p (suc k) 0 (omega arith)) ∙ mul_zero o _)

  pub coprime_constant : (p r : List ℕ) → IsPolynomial o p → length p ≡ 1 → IsCoprime o p r
  coprime_constant p r hp size d hd first second = constant_divisor p d hp size hd first

  -- coprime to zero are the constants alone
  pub coprime_zero : (z p : List ℕ) → length z ≡ 0 → IsPolynomial o p → 0 < length p → IsCoprime o z p ↔ (length p ≡ 1)
  coprime_zero z p none hp l = (
    λ h. elim (cases_lt 1 (length p)) [
      | inl g ↦
          absurd (hp.lead l
          (h p hp.elements (subst (NumberDivides o p) (sym (nil_from_length z none)) (divides_zero p)) (divides_itself p hp.elements) (length p - 1) (omega arith)))
      | inr g ↦ omega arith
    ],
    λ size d hd first second. constant_divisor p d hp size hd second,
  )
