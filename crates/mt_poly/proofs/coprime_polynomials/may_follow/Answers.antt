use Rattle.std.proofs.Common.{◌≡◌, ℕ, ◌-◌, ◌<◌, ◌≤◌, inl, inr, List, [], length, map, get_or, refl, sym, ap, ◌∙◌, subst, arith}
use Rattle.std.proofs.lemmas.Bool.{cases_lt, false≢true}
use Rattle.std.proofs.lemmas.List.{get_or_read, get_or-map, length-map}
use Rattle.std.proofs.lemmas.List.Elements.{All-map}
use Rattle.mt_poly.specs.declared.polynomials.Poly.{Poly}
use Rattle.mt_poly.specs.Polynomials.{IsPolynomial, IsCoprime}
use Rattle.mt_poly.proofs.CoprimalityLemmas.{coprime_same}
use Rattle.mt_poly.proofs.coprime_polynomials.may_follow.Goals as goal

candidate : (c : goal.After-divisor-in-loop-poly-1) → IsPolynomial c.args.order c.args.candidate.now.coefficients
candidate c = subst (λ q. IsPolynomial q c.args.candidate.now.coefficients) c.requires.candidate_order c.coefficients-coefficients.ensures.system

pub are_coprime-requires-clause-left : goal.are_coprime-requires-clause-left
are_coprime-requires-clause-left c =
    let p : Poly = c.poly-item.result in
    let order : p.order ≡ c.args.order =
    ap (λ (x : Poly). x.order) c.poly-item.is ∙ c.requires.orders c.loop-poly.poly-index p (omega arith) in
    subst (λ q. IsPolynomial q c.coefficients-member.result.now) order
    (subst (λ xs. IsPolynomial p.order xs) (sym c.coefficients-member.ensures.value) c.coefficients-member.ensures.system)

pub are_coprime-requires-clause-right : goal.are_coprime-requires-clause-right
are_coprime-requires-clause-right c = subst (IsPolynomial c.args.order) (sym c.coefficients-coefficients.ensures.value) (candidate c)

pub returns-then-not-branch-clause-answer : goal.returns-then-not-branch-clause-answer
returns-then-not-branch-clause-answer c =
    let kept : List Poly = c.args.kept.now in
    let i : ℕ = c.loop-poly.poly-index in
    let p : Poly = c.poly-item.result in
    let l : i < length kept = omega arith in
    let answer = coprime_same c.args.order c.in_ok-are_coprime.field-0 _ _ _ _ c.coefficients-member.ensures.value c.coefficients-coefficients.ensures.value c.in_ok-are_coprime.ensures.answer in
    let read : get_or (map (λ (x : Poly). x.coefficients) kept) i [] ≡ p.coefficients =
    get_or-map (λ (x : Poly). x.coefficients) kept i p [] l ∙ ap (λ (x : Poly). x.coefficients) (sym c.poly-item.is) in (
      λ t. absurd (false≢true t),
      λ f. sym c.if-not-branch.true
          ∙ answer.1 (subst (λ xs. IsCoprime c.args.order xs c.args.candidate.now.coefficients) read (f.1 i [] (omega (arith, length-map kept (λ (x : Poly). x.coefficients))))),
    )

pub loop-poly-preserved : goal.loop-poly-preserved
loop-poly-preserved c =
    let b = c.args.candidate.now.coefficients in
    let kept : List Poly = c.args.kept.now in
    let i : ℕ = c.loop-poly.poly-index in
    let p : Poly = c.poly-item.result in
    let l : i < length kept = omega arith in
    let answer = coprime_same c.args.order c.in_ok-are_coprime.field-0 _ _ _ _ c.coefficients-member.ensures.value c.coefficients-coefficients.ensures.value c.in_ok-are_coprime.ensures.answer in
    λ k d m. elim (cases_lt k i) [
      | inl q ↦ c.loop-poly.invariant k d q
      | inr q ↦
          let e : i ≡ k = omega arith in
          subst (λ (x : Poly). IsCoprime c.args.order x.coefficients b) (get_or_read kept i p l c.poly-item.is d ∙ ap (λ j. get_or kept j d) e)
          (answer.0 c.if-not-branch.false)
    ]

pub returns-clause-answer : goal.returns-clause-answer
returns-clause-answer c =
    let kept : List Poly = c.args.kept.now in
    let b = c.args.candidate.now.coefficients in
    let lead : get_or b (length b - 1) 0 ≡ 1 = subst (λ xs. get_or xs (length xs - 1) 0 ≡ 1) c.coefficients-coefficients.ensures.value c.if-coefficients-length-ne1.false in
    let long : 2 ≤ length b = omega (arith, ap length c.coefficients-coefficients.ensures.value) in
    let polynomial : IsPolynomial c.args.order b = subst (λ q. IsPolynomial q b) c.requires.candidate_order c.coefficients-coefficients.ensures.system in (
      λ t. (
        (polynomial.elements, (length b - 1, omega arith, (omega arith, lead))),
        All-map (λ xs. IsCoprime c.args.order xs b) (λ (x : Poly). x.coefficients) kept (λ k d l. c.loop-poly.invariant k d (omega arith)),
      ),
      λ f. refl,
    )
