-- Powers and coprime polynomials of numbers over the field of their order.
use Rattle.std.proofs.Common.{◌≡◌, ◌≢◌, ℕ, zero, suc, ◌+◌, ◌-◌, ◌*◌, ◌<◌, ◌≤◌, List, [], ◌∷◌, get_or, sym, ap, ◌∙◌, arith}
use Rattle.mt_linear.specs.declared.order.Order.{Order}
use Rattle.mt_linear.specs.Field.{number_of}
use Rattle.mt_linear.specs.Linear.{AllElements}
use Rattle.mt_linear.proofs.FieldLaws.{number_pos, one_below}
use Rattle.mt_linear.proofs.Abstract.{Ops, HasFieldLaws, Digit, digit, digit-injective, field_of, field_laws, sum_cong, null_add}
use Rattle.mt_linear.proofs.Sums.{null_mul}
use Rattle.mt_poly.specs.Polynomials.{IsPolynomial, IsPower, IsMonic, IsCoprime, Divides as DividesList}
use Rattle.mt_poly.proofs.Action.{poly_power, act, act-terms, act_cong, act_null, same_by_act, coef_mul}
use Rattle.mt_poly.proofs.Monic.{HasDegree, monic_power}
use Rattle.mt_poly.proofs.Divisibility.{Divides, no_divisors}
use Rattle.mt_poly.proofs.CommonDivisors.{CommonDivisor, common_divisor}
use Rattle.mt_poly.proofs.Apart.{IsApart}
use Rattle.mt_poly.proofs.ListLemmas.{length_top}
use Rattle.mt_poly.proofs.PolynomialBridge.{elements, element_at, acts_of, digit-product_at, numbers_of, numbers_of_in, numbers_of_at, degree_lifted, divides_from}

module _ (o : Order) where
  abbrev F : Ops (Digit (number_of o))
  F = field_of o

  abbrev L : HasFieldLaws (field_of o)
  L = field_laws o

  pub power_lifted : (p : List ℕ) (n : ℕ) (r : List ℕ) → IsPower o p n r → (k : ℕ)
      → get_or (elements o r) k F.null ≡ get_or (poly_power F (elements o p) n) k F.null
  power_lifted p zero r h k = element_at o r k ∙ ap (digit o) (h k) ∙ sym (element_at o (1 ∷ []) k)
  power_lifted p (suc n) r (w, below, power, product) k =
      element_at o r k
      ∙ ap (digit o) (product k)
      ∙ digit-product_at o w p k
      ∙ coef_mul F L (elements o w) (elements o p) k
      ∙ sum_cong F (suc k) _ _ (λ i g. ap (λ y. F.mul y (get_or (elements o p) (k - i) F.null)) (power_lifted p n w power i))
      ∙ sym (coef_mul F L (poly_power F (elements o p) n) (elements o p) k)

  pub power_monic : (p : List ℕ) (e n : ℕ) (r : List ℕ) → IsMonic p e → IsPolynomial o r → IsPower o p n r → IsMonic r (n * e)
  power_monic p e n r monic is power = (length_top o r (n * e) is (λ z. omega (arith, z, top)) above, top)
    where
      degree : HasDegree F (poly_power F (elements o p) n) (n * e)
      degree = monic_power F L (elements o p) e (degree_lifted o p e monic) n

      top : get_or r (n * e) 0 ≡ 1
      top = digit-injective o _ 1 (is.elements (n * e)) (one_below o) (sym (element_at o r (n * e)) ∙ power_lifted p n r power (n * e) ∙ degree.here)

      above : (i : ℕ) → n * e < i → get_or r i 0 ≡ 0
      above i h = digit-injective o _ 0 (is.elements i) (number_pos o) (sym (element_at o r i) ∙ power_lifted p n r power i ∙ degree.above i h)

  -- a monic polynomial, and one whose common divisors with it are constants
  pub apart_from_coprime : (p q : List ℕ) (n : ℕ) → IsMonic p n → AllElements o p → AllElements o q → IsCoprime o p q
      → IsApart F (elements o p) (elements o q)
  apart_from_coprime p q n monic below_p below_q coprime w s t l =
      no_divisors F L (get_or c.divisor 0 F.null) (w l) constant (sym (scales w l) ∙ c.kills w s t l)
    where
      c : CommonDivisor F (elements o p) (elements o q)
      c = common_divisor F L (elements o p) (elements o q)

      d : List ℕ
      d = numbers_of o c.divisor

      lowered : (r : List ℕ) → AllElements o r → Divides F c.divisor (elements o r) → DividesList o (numbers_of o c.divisor) r
      lowered r below (a, e) =
          divides_from o d r below (a, λ v i. e v i ∙ act_cong F L a _ _ (λ j. sym (acts_of o d c.divisor (numbers_of_at o c.divisor) v j)) i)

      higher : (k : ℕ) → 1 ≤ k → get_or c.divisor k F.null ≡ F.null
      higher k h =
          sym (numbers_of_at o c.divisor k)
          ∙ ap (digit o) (coprime d (numbers_of_in o c.divisor) (lowered p below_p c.first) (lowered q below_q c.second) k h)

      scales : (v : ℕ → Digit (number_of o)) (l : ℕ) → act F c.divisor v l ≡ F.mul (get_or c.divisor 0 F.null) (v l)
      scales v l =
          act-terms F L c.divisor 1 v l (λ j h. ap (λ y. F.mul y (v (l + j))) (higher j h) ∙ null_mul F L (v (l + j)))
          ∙ null_add F L _
          ∙ ap (λ i. F.mul (get_or c.divisor 0 F.null) (v i)) (omega arith)

      -- else p is zero
      zero_action : get_or c.divisor 0 F.null ≡ F.null → (v : ℕ → Digit (number_of o)) (l : ℕ) → act F (elements o p) v l ≡ F.null
      zero_action e v l =
          c.first.1 v l
          ∙ act_null F L c.first.0 (act F c.divisor v) (λ i. scales v i ∙ ap (λ y. F.mul y (v i)) e ∙ null_mul F L (v i)) l

      constant : get_or c.divisor 0 F.null ≢ F.null
      constant e = L.one_apart (sym (degree_lifted o p n monic).here ∙ same_by_act F L (elements o p) [] (zero_action e) n)
