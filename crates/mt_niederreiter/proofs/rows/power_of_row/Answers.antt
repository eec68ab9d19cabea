use Rattle.std.proofs.Common.{◌≡◌, ◌≢◌, ℕ, suc, ◌/◌, ◌%◌, List, ap, subst, arith}
use Rattle.std.proofs.lemmas.Result.{IfOk-weaker}
use Rattle.mt_linear.specs.declared.order.Order.{Order}
use Rattle.mt_poly.specs.Polynomials.{IsPower, IsProduct, Polynomial, IsPolynomial}
use Rattle.mt_poly.proofs.MemberLemmas.{positive_member}
use Rattle.mt_niederreiter.specs.Expansions.{degree_of}
use Rattle.mt_niederreiter.proofs.StepLemmas.{times_same, times_more}
use Rattle.mt_niederreiter.proofs.rows.power_of_row.Goals as goal

pub returns-then-row-degree-gt0-clause-power : goal.returns-then-row-degree-gt0-clause-power
returns-then-row-degree-gt0-clause-power c =
    let o : Order = c.args.poly.now.order in
    let p = c.args.poly.now.coefficients in
    let more : c.args.row % degree_of p ≢ 0 = λ e. omega (arith, ap (λ (xs : List ℕ). c.args.row % degree_of xs) c.coefficients.ensures.value) in
    subst (λ n. IsPower o p n c.args.power.coefficients) (times_more c.args.row (degree_of p) (positive_member o p c.requires.member) more) c.requires.power

pub returns-clause-power : goal.returns-clause-power
returns-clause-power c =
    let o : Order = c.args.poly.now.order in
    let p = c.args.poly.now.coefficients in
    let w = c.args.power.coefficients in
    let e : c.args.row % degree_of p ≡ 0 = omega (arith, ap (λ (xs : List ℕ). c.args.row % degree_of xs) c.coefficients.ensures.value) in
    let power : IsPower o p (c.args.row / degree_of p) w =
    subst (λ n. IsPower o p n w) (times_same c.args.row (degree_of p) (positive_member o p c.requires.member) e) c.requires.power in
    let own : IsPolynomial o w =
    subst (λ q. IsPolynomial q w) c.requires.order (subst (λ (x : Polynomial). IsPolynomial x.order x.coefficients) c.power.view_is c.power.invariant) in
    IfOk-weaker c.mul.result (λ r. IsProduct c.args.power.order w p r.coefficients) (λ r. IsPower o p (suc (c.args.row / degree_of p)) r.coefficients)
    (λ r product. (w, own.elements, power, subst (λ q. IsProduct q w p r.coefficients) c.requires.order product)) c.mul.ensures.product
