use Rattle.std.proofs.Common.{sym, ◌∙◌, ap, map}
use Rattle.serde_json.specs.View.{view}
use Rattle.mt_answer.proofs.BodyLemmas.{no_nodes, node_step}
use Rattle.mt_answer.proofs.bodies.node_values.Goals as goal

pub loop-place-init : goal.loop-place-init
loop-place-init c = ap (map view) c.in_ok-values.ensures.items ∙ sym (no_nodes 1)

pub loop-place-preserved : goal.loop-place-preserved
loop-place-preserved c =
    ap (map view) c.in_ok-push.ensures.items
    ∙ node_step c.args.nodes.now c.loop-place.place _ c.loop-place.values.items _ c.loop-place-test.true c.loop-place.invariant c.in_ok-node_value.ensures
