use Rattle.std.proofs.Common.{rules, ◌≡◌, [], ◌∷◌, ◌++◌, sym}
use Rattle.std.specs.Arc.{arc_value}
use Rattle.mt_publish.specs.Stories.{story}
use Rattle.mt_publish.specs.declared.role.Role.TheVariants.{Resting}
use Rattle.mt_publish.proofs.StoryLemmas.{story_longer}
use Rattle.mt_publish.proofs.StepLemmas.{announcing}
use Rattle.mt_publish.proofs.publisher.Publisher.append.Goals as goal

pub compare_exchange_with-requires : goal.compare_exchange_with-requires
compare_exchange_with-requires g c =
    let e = c.args.entry in let shown = c.self.inside.shown in let new = c.copy_of.result in
    let b = g.V.Growing.base (arc_value shown) in let xs = g.V.Growing.listed (arc_value shown) in
    let is : c.self.inside.place.me ≡ (Resting (story b xs), []) = c.self.invariant.5 in
    let base : g.V.Growing.base (arc_value new) ≡ b = search rules in
    let list : g.V.Growing.listed (arc_value new) ≡ xs ++ e ∷ [] = search rules in
    (search rules, search rules, announcing _ _ _ _ _ new (λ k. (is k).0) (story_longer b _ xs _ e (sym base) list))
