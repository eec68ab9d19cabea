use Rattle.std.proofs.Common.{◌≡◌, ℕ, ◌-◌, length, slice_index, sym, ap, ap₂, ◌∙◌, subst, [], ◌∷◌, List, get_or, arith}
use Rattle.mt_linear.specs.declared.order.Order.{Order}
use Rattle.mt_linear.specs.Field.{add_of, mul_of, inv_of}
use Rattle.mt_linear.proofs.FieldLaws.{mul_lt}
use Rattle.mt_linear.proofs.Combination.{zero_add}
use Rattle.mt_poly.specs.Polynomials.{Polynomial, IsPolynomial, IsGreatest}
use Rattle.mt_poly.proofs.GreatestLemmas.{greatest_start}
use Rattle.mt_poly.proofs.euclid.made_monic.Goals as goal

pub returns-clause-greatest : goal.returns-clause-greatest
returns-clause-greatest c =
    let o : Order = c.args.a.now.order in
    let a = c.args.a.now.coefficients in
    let n : ℕ = length a - 1 in
    let s = c.inv-scale.result in
    let d = c.in_ok-divisor.divisor.coefficients in
    let u = c.trimmed-left.result.coefficients in
    let v = c.trimmed-zero.result.coefficients in
    let order : c.trimmed-zero.result.order ≡ o = c.trimmed-zero.ensures.order ∙ c.order-order.ensures in
    let none : (k : ℕ) → slice_index v k ≡ 0 = λ k. c.trimmed-zero.ensures.same k ∙ ap (λ xs. slice_index xs k) c.new.ensures.items in
    let scale : s ≡ inv_of o (slice_index a n) =
    c.inv-scale.ensures.value ∙ ap₂ (λ p (xs : List ℕ). inv_of p (get_or xs (length xs - 1) 0)) c.order-order.ensures c.coefficients-list.ensures.value in
    let divisor : IsPolynomial o d =
    subst (λ p. IsPolynomial p d) (c.in_ok-divisor.ensures.order ∙ order)
    (subst (λ (p : Polynomial). IsPolynomial p.order p.coefficients) c.divisor.view_is c.divisor.invariant) in
    let product : (k : ℕ) → slice_index d k ≡ mul_of o (inv_of o (slice_index a n)) (slice_index a k) =
    λ k.
    c.in_ok-divisor.ensures.sum k
    ∙ ap (λ p. add_of p (slice_index v k) (mul_of p s (slice_index a k))) order
    ∙ ap₂ (λ x f. add_of o x (mul_of o f (slice_index a k))) (none k) scale
    ∙ zero_add o _ (mul_lt o _ _) in
    let left : (k : ℕ) → slice_index u k ≡ slice_index (inv_of o (slice_index a n) ∷ []) k =
    λ k. c.trimmed-left.ensures.same k ∙ ap (λ xs. slice_index xs k) (c.in_ok-vec.ensures.items ∙ ap (λ f. f ∷ []) scale) in
    subst (λ xs. IsGreatest o a xs u v d) (sym c.requires.zero)
    (greatest_start o a d u v n c.coefficients-list.ensures.system divisor (omega arith) product left none)
