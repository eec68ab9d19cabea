use Rattle.std.proofs.Common.{◌≡◌, map, take}
use Rattle.serde_json.specs.View.{view}
use Rattle.mt_answer.specs.Bodies.{nodes_data}
use Rattle.mt_answer.proofs.bodies.node_values.Given as goal

abbrev pub invariant-loop-place : goal.invariant-loop-place
invariant-loop-place l = map view l.values.items ≡ nodes_data 1 (take l.place l.nodes)
