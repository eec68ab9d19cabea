use Rattle.std.proofs.Common.{sym, ◌∙◌}
use Rattle.mt_answer.proofs.LineLemmas.{no_lines, line_step}
use Rattle.mt_answer.proofs.lines.node_lines.Goals as goal

pub loop-place-init : goal.loop-place-init
loop-place-init c = c.new-text.ensures.items ∙ sym (no_lines 1)

pub loop-place-preserved : goal.loop-place-preserved
loop-place-preserved c =
    line_step c.args.nodes.now c.loop-place.place _ c.loop-place.text.items c.push_node.new.text.items c.loop-place-test.true c.loop-place.invariant c.in_ok-push_node.ensures
