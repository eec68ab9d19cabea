use Rattle.std.proofs.Common.{rules, ◌∙◌, ◌≡◌, ◌∷◌, [], Some}
use Rattle.mt_publish.specs.Rule.{list_of}
use Rattle.mt_publish.specs.declared.role.Role.TheVariants.{Handing}
use Rattle.mt_publish.proofs.StepLemmas.{reaching}
use Rattle.mt_publish.proofs.handing.reach.Goals as goal

pub compare_exchange-requires : goal.compare_exchange-requires
compare_exchange-requires g c =
    let same : c.loop.place.me ≡ (Handing (list_of c.args.place.now.me.0) c.args.i, []) = search rules in
    (search rules, search rules, reaching _ _ _ _ _ _ (λ k. (same k).0) (search rules))

pub returns-then-compare_exchange-eq0-clause-took : goal.returns-then-compare_exchange-eq0-clause-took
returns-then-compare_exchange-eq0-clause-took g c =
    let same : c.loop.place.me ≡ (Handing (list_of c.args.place.now.me.0) c.args.i, []) = search rules in
    let took = (c.compare_exchange.ensures.2 _ (λ k. (same k).0)).0 (search rules) in
    (took.0, λ k. (took.1 k, (took.2 ∙ (λ j. (c.args.i, Some took.0) ∷ (same j).1)) k))
