use Rattle.std.proofs.Common.{◌≡◌, length, refl, ◌∙◌, sym, subst, arith, eq-eqb, eqb-true}
use Rattle.std.specs.Vec.{vec_len}
use Rattle.mt_poly.specs.Polynomials.{HaveSameDivisors}
use Rattle.mt_poly.proofs.CoprimalityLemmas.{coprime_step, coprime_constant, coprime_zero}
use Rattle.mt_poly.proofs.coprimality.+coprime_in_place.Goals as goal

pub returns-then-is_empty : goal.returns-then-is_empty
returns-then-is_empty t c =
    let p = c.args.dividend.now.items in
    let none : vec_len c.args.divisor.now ≡ 0 = eqb-true (vec_len c.args.divisor.now) 0 (sym c.is_empty.ensures ∙ c.if-is_empty.true) in
    let zero = coprime_zero c.args.order c.args.divisor.now.items p (omega (arith, none)) c.requires.right c.requires.not_zero in
    let size : c.len.result ≡ length p = omega (arith, c.len.ensures) in
    record { answer = (λ y. zero.1 (sym size ∙ eqb-true c.len.result 1 y), λ h. eq-eqb c.len.result 1 (size ∙ zero.0 h)) }

pub returns-then-len-eq1 : goal.returns-then-len-eq1
returns-then-len-eq1 t c = record {
  answer = (
    λ y. coprime_constant c.args.order c.args.divisor.now.items c.args.dividend.now.items c.requires.left (omega (arith, c.len-2.ensures, c.if-len-eq1.true)),
    λ h. refl,
  );
}

pub coprime_in_place-requires : goal.coprime_in_place-requires
coprime_in_place-requires t c = (omega (arith, c.reduce.ensures.short, c.deref.ensures.len), (c.reduce.ensures.polynomial, (c.requires.left, omega arith)))

pub returns : goal.returns
returns t c =
    let o = c.args.order in
    let p = c.args.dividend.now.items in
    let r = c.reduce.new.rest.items in
    let same : HaveSameDivisors o c.args.divisor.now.items p r = subst (λ b. HaveSameDivisors o b p r) c.deref.ensures.value c.reduce.ensures.same in
    let step = coprime_step o c.args.divisor.now.items p r same in
    record { answer = (λ y. step.0 (c.coprime_in_place.ensures.answer.0 y), λ h. c.coprime_in_place.ensures.answer.1 (step.1 h)) }
