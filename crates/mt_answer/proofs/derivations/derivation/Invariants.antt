use Rattle.std.proofs.Common.{◌≡◌, length}
use Rattle.mt_answer.specs.Places.{AreAmong}
use Rattle.mt_answer.proofs.derivations.derivation.Given as goal

abbrev pub invariant-loop-number : goal.invariant-loop-number
invariant-loop-number l = record {
  count : length l.list.items ≡ l.number-index;
  among : AreAmong l.nodes.list l.number-items l.list.items;
}
