use Rattle.mt_derive.specs.Marks.{AreFound}
use Rattle.mt_derive.proofs.reached_nodes.reachable.Given as goal

abbrev pub invariant-loop-q : goal.invariant-loop-q
invariant-loop-q l = AreFound l.mark-items l.q l.found.items
