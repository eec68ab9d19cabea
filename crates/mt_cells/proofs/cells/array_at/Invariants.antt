use Rattle.std.proofs.Common.{◌≡◌, ◌+◌, ◌-◌, ◌*◌, ◌≤◌}
use Rattle.mt_cells.specs.Cells.{triangle}
use Rattle.mt_cells.proofs.cells.array_at.Given as goal

abbrev pub invariant-loop-m : goal.invariant-loop-m
invariant-loop-m l = record {
  low : 1 ≤ l.m;
  high : l.m ≤ l.bounds.m_max;
  passed : l.rest + l.bounds.s_max * triangle l.m ≡ l.before;
}

abbrev pub decreases-loop-m : goal.decreases-loop-m
decreases-loop-m l = l.bounds.m_max - l.m
