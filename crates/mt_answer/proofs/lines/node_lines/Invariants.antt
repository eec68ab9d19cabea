use Rattle.std.proofs.Common.{◌≡◌, take}
use Rattle.mt_answer.specs.Texts.{nodes_text}
use Rattle.mt_answer.proofs.lines.node_lines.Given as goal

abbrev pub invariant-loop-place : goal.invariant-loop-place
invariant-loop-place l = l.text.items ≡ nodes_text 1 (take l.place l.nodes)
