use Rattle.std.proofs.Common.{◌≡◌, ℕ, ◌<◌, slice_index, sym, ap, ◌∙◌, subst}
use Rattle.mt_linear.specs.declared.order.Order.{Order}
use Rattle.mt_linear.specs.Field.{number_of, add_of, mul_of, neg_of}
use Rattle.mt_linear.proofs.FieldLaws.{add_lt}
use Rattle.mt_poly.specs.Polynomials.{Polynomial, IsPolynomial, IsDivision, IsGreatest, IsProduct}
use Rattle.mt_poly.proofs.GreatestLemmas.{greatest_step}
use Rattle.mt_poly.proofs.euclid.+gcd.Goals as goal

pub returns-clause-greatest : goal.returns-clause-greatest
returns-clause-greatest t c =
    let o : Order = c.args.a.now.order in
    let a = c.args.a.now.coefficients in
    let b = c.args.b.now.coefficients in
    let q = c.in_ok-division.division.quotient.coefficients in
    let r = c.in_ok-division.division.remainder.coefficients in
    let d = c.in_ok-lower.lower.divisor.coefficients in
    let u = c.in_ok-lower.lower.left.coefficients in
    let v = c.in_ok-lower.lower.right.coefficients in
    let x = c.in_ok-product.product.coefficients in
    let y = c.in_ok-factor.factor.coefficients in
    let orders : o ≡ c.args.b.now.order = c.requires.orders in
    let division : IsDivision o a b q r = c.in_ok-division.ensures.division in
    let greatest : IsGreatest o b r u v d = subst (λ p. IsGreatest p b r u v d) (sym orders) c.in_ok-lower.ensures.greatest in
    let product : IsProduct o v q x = subst (λ p. IsProduct p v q x) (c.in_ok-lower.ensures.right_order ∙ sym orders) c.in_ok-product.ensures.product in
    let minus : c.neg-minus_one.result ≡ neg_of o 1 = c.neg-minus_one.ensures.value ∙ ap (λ p. neg_of p 1) c.order.ensures in
    let factor : (n : ℕ) → slice_index y n ≡ add_of o (slice_index u n) (mul_of o (neg_of o 1) (slice_index x n)) =
    λ n.
    c.in_ok-factor.ensures.sum n
    ∙ ap (λ p. add_of p (slice_index u n) (mul_of p c.neg-minus_one.result (slice_index x n))) (c.in_ok-lower.ensures.left_order ∙ sym orders)
    ∙ ap (λ m. add_of o (slice_index u n) (mul_of o m (slice_index x n))) minus in
    let divisor : IsPolynomial o d =
    subst (λ p. IsPolynomial p d) (c.in_ok-lower.ensures.divisor_order ∙ sym orders)
    (subst (λ (p : Polynomial). IsPolynomial p.order p.coefficients) c.divisor.view_is c.divisor.invariant) in
    greatest_step o a b q r d u v x y (λ k. subst (λ z. z < number_of o) (sym (division.sum k)) (add_lt o _ _)) divisor.elements division greatest product factor
