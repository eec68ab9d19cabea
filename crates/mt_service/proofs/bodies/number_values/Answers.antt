use Rattle.std.proofs.Common.{ap, ◌∙◌, map}
use Rattle.serde_json.specs.View.{view}
use Rattle.mt_service.proofs.BodyLemmas.{number_step}
use Rattle.mt_service.proofs.bodies.number_values.Goals as goal

pub loop-place-preserved : goal.loop-place-preserved
loop-place-preserved c =
    ap (map view) c.in_ok-push.ensures.items
    ∙ number_step c.args.numbers.now c.loop-place.place _ c.loop-place.values.items _ c.loop-place-test.true c.loop-place.invariant c.from.ensures
