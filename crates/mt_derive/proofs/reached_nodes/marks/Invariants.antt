use Rattle.mt_derive.specs.Marks.{AreWalked}
use Rattle.mt_derive.proofs.reached_nodes.marks.Given as goal

abbrev pub invariant-loop-q : goal.invariant-loop-q
invariant-loop-q l = AreWalked l.nodes.list l.n l.q l.marks.items
