use Rattle.std.proofs.Common.{◌+◌, ◌<◌, ◌≤◌}
use Rattle.mt_strength.specs.Walks.{AreLeft}
use Rattle.mt_strength.proofs.walks.last_gone.Given as goal

abbrev pub invariant-loop-i : goal.invariant-loop-i
invariant-loop-i l = record {
  within : l.i ≤ l.others;
  some : 0 < l.i → 0 < l.each;
  left : AreLeft l.order l.rows l.first l.others l.each l.place (l.i + 1);
}

abbrev pub decreases-loop-i : goal.decreases-loop-i
decreases-loop-i l = l.i
