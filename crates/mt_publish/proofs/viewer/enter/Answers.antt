use Rattle.std.proofs.Common.{rules, ◌≡◌, ◌∙◌, [], ◌∷◌, Some}
use Rattle.mt_publish.specs.Rule.{list_of, learnt_of}
use Rattle.mt_publish.specs.declared.role.Role.TheVariants.{Seated}
use Rattle.mt_publish.proofs.StepLemmas.{entering}
use Rattle.mt_publish.proofs.viewer.enter.Goals as goal

pub compare_exchange-requires : goal.compare_exchange-requires
compare_exchange-requires g c =
    let same : c.loop.place.me ≡ (Seated c.args.index (list_of c.args.place.now.me.0) (learnt_of c.args.place.now.me.0), []) = search rules in
    (search rules, search rules, entering _ _ _ _ _ _ _ (λ k. (same k).0))

pub returns-then-compare_exchange-eq0-clause-entered : goal.returns-then-compare_exchange-eq0-clause-entered
returns-then-compare_exchange-eq0-clause-entered g c = let i = c.args.index in
    let same : c.loop.place.me ≡ (Seated i (list_of c.args.place.now.me.0) (learnt_of c.args.place.now.me.0), []) = search rules in
    let took = (c.compare_exchange.ensures.2 _ _ (λ k. (same k).0)).0 (search rules) in
    (took.0, (λ k. (took.1 k, (took.2 ∙ (λ j. (i, Some took.0) ∷ (same j).1)) k)), took.3, took.4)
