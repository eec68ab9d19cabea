use Rattle.std.proofs.Common.{rules, ◌≡◌, [], ◌∷◌, sym, ◌∙◌, Some}
use Rattle.std.specs.Arc.{arc_value}
use Rattle.atomic_table.specs.Table.{rest}
use Rattle.mt_publish.specs.Stories.{story}
use Rattle.mt_publish.specs.Rule.{list_of}
use Rattle.mt_publish.specs.declared.role.Role.TheVariants.{Handing, Swapping}
use Rattle.mt_publish.proofs.StepLemmas.{swapping, resting}
use Rattle.mt_publish.proofs.handing.hand_out.Goals as goal

pub exchange-before-requires : goal.exchange-before-requires
exchange-before-requires g c = let took = c.reach.ensures.took in let i = c.loop-i.i in
    (search rules, (Some took.0, (λ k. (took.1 k).1) ∙ (λ k. (i, Some took.0) ∷ rest (sym took.1 k).1)))

pub store-requires : goal.store-requires
store-requires g c =
    let x = story (g.V.Growing.base (arc_value c.args.new.now)) (g.V.Growing.listed (arc_value c.args.new.now)) in
    let i = c.loop-i.i in let took = c.reach.ensures.took in let put = c.exchange-before.ensures in
    let was : list_of c.loop-i.place.me.0 ≡ x = (λ k. list_of (c.loop-i.invariant.2 k).0) in
    let role = (λ k. (took.1 k).0) ∙ (λ k. Swapping (was k) i) in
    let bare : rest c.reach.new.place.me.1 ≡ [] = (λ k. rest (took.1 k).1) in
    (search rules, search rules, swapping _ _ _ _ _ x _ (put.3 ∙ (λ k. (role k, (i, Some c.copy_of-copy.result) ∷ bare k))) (search rules))

pub load-requires : goal.load-requires
load-requires g c =
    let x = story (g.V.Growing.base (arc_value c.args.new.now)) (g.V.Growing.listed (arc_value c.args.new.now)) in
    let all : c.loop-i.i ≡ c.args.shared.now.table_id.slots = search rules in
    (search rules, search rules, resting _ _ _ _ x ((λ k. (c.loop-i.invariant.2 k).0) ∙ (λ k. Handing x (all k))) (search rules))
