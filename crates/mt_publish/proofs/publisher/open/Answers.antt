use Rattle.std.proofs.Common.{rules, ◌≡◌, sym, ◌∙◌}
use Rattle.std.specs.Arc.{arc_value}
use Rattle.mt_publish.specs.Stories.{story}
use Rattle.mt_publish.proofs.StepLemmas.{starts, each_some}
use Rattle.mt_publish.proofs.publisher.open.Goals as goal

pub new-requires-3 : goal.new-requires-3
new-requires-3 g c = let listed = λ (v : g.row.V.Denot). story (g.V.Growing.base v) (g.V.Growing.listed v) in
    let is : c.of-about.result.value ≡ c.args.first = search rules in
    let here : arc_value c.in_ok-shown.shown ≡ c.args.first = search rules in
    let got = c.in_ok-slots.ensures in
    starts (λ a. story (g.V.Growing.base (arc_value a)) (g.V.Growing.listed (arc_value a))) _ _ _ (search rules) (λ i h. let t = each_some _ c.in_ok-slots.slots.items got.1 i h in (t.0, t.1, λ k. listed ((t.2 ∙ (here ∙ sym is)) k)))
