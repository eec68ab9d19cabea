use Rattle.std.proofs.Common.{◌≡◌, ◌+◌, ◌-◌}
use Rattle.mt_cells.specs.Spots.{spot_number, end_number}
use Rattle.mt_cells.specs.Listed.{IsCursor, instances_left}
use Rattle.mt_cells.proofs.instances.InstancesIterator.next.Given as goal

abbrev pub invariant-loop-self : goal.invariant-loop-self
invariant-loop-self l = record {
  cursor : IsCursor l.self-inside.lines l.self-inside.line l.self-inside.s;
  same : l.fn.self ≡ instances_left l.self-inside.lines l.self-inside.line l.self-inside.s;
}

abbrev pub decreases-loop-self : goal.decreases-loop-self
decreases-loop-self l = end_number + 65536 - spot_number l.self-inside.line.stage l.self-inside.line.m l.self-inside.line.depth l.self-inside.s
