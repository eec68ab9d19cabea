use Rattle.std.proofs.Common.{sym, subst, arith}
use Rattle.mt_system.specs.Digits.{HasDigits}
use Rattle.mt_system.proofs.MakeLemmas.{digits_from_items}
use Rattle.mt_system.proofs.formula.make.Goals as goal

pub returns : goal.returns
returns g c =
    subst (λ z. HasDigits c.of_elements.result z.order z.columns z.coordinates z.depth (g.F.Formula.digit_of c.args.formula.now))
    c.sizes-sizes.ensures
    (subst (λ a. HasDigits a c.sizes-sizes.result.order c.sizes-sizes.result.columns c.sizes-sizes.result.coordinates c.sizes-sizes.result.depth
    (g.F.Formula.digit_of c.args.formula.now))
    (sym c.of_elements.ensures)
    (digits_from_items c.sizes-sizes.result.order c.sizes-sizes.result.columns c.sizes-sizes.result.coordinates c.sizes-sizes.result.depth
    c.loop-place.digits.items (g.F.Formula.digit_of c.args.formula.now)
    (λ k h. c.loop-place.invariant.values k (omega (arith, h, c.loop-place-test.false)))))
