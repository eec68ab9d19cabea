use Rattle.std.proofs.Common.{rules, ◌≡◌, ◌∙◌, [], length, ap, sym}
use Rattle.std.specs.Arc.{arc_value}
use Rattle.mt_publish.specs.Rule.{front_of, list_of}
use Rattle.mt_publish.specs.Stories.{story}
use Rattle.mt_publish.specs.declared.role.Role.TheVariants.{Noted}
use Rattle.mt_publish.proofs.StepLemmas.{telling}
use Rattle.mt_publish.proofs.StoryLemmas.{noted_entries}
use Rattle.mt_publish.proofs.publisher.Publisher.front.Goals as goal

pub split_seat-place-requires : goal.split_seat-place-requires
split_seat-place-requires g c = (search rules, search rules, telling _ _ _)

pub invariant_of-result : goal.invariant_of-result
invariant_of-result g c = let b = g.V.Growing.base (arc_value c.self.inside.shown) in let xs = g.V.Growing.listed (arc_value c.self.inside.shown) in
    let is : c.split_seat-place.result.me ≡ (Noted (story b xs), []) = c.split_seat-place.ensures.4 ∙ (λ k. (front_of (c.self.invariant.5 k).0, [])) in
    let n : c.entries-len.result ≡ length xs = search rules in
    (is ∙ (λ k. (Noted (list_of (sym is k).0), [])), n ∙ ap length (sym (noted_entries _ b xs is)))

pub returns-clause-front : goal.returns-clause-front
returns-clause-front g c = let b = g.V.Growing.base (arc_value c.self.inside.shown) in let xs = g.V.Growing.listed (arc_value c.self.inside.shown) in
    let is : c.split_seat-place.result.me ≡ (Noted (story b xs), []) = c.split_seat-place.ensures.4 ∙ (λ k. (front_of (c.self.invariant.5 k).0, [])) in
    (search rules, noted_entries _ b xs is ∙ ap (λ t. t.list) c.self.view_is)
