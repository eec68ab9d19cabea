use Rattle.std.proofs.Common.{◌≡◌, map, take}
use Rattle.serde_json.specs.View.{view}
use Rattle.mt_service.specs.Bodies.{natural}
use Rattle.mt_service.proofs.bodies.number_values.Given as goal

abbrev pub invariant-loop-place : goal.invariant-loop-place
invariant-loop-place l = map view l.values.items ≡ map natural (take l.place l.numbers)
