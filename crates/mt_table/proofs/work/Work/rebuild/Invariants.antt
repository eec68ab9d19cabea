use Rattle.std.proofs.Common.{◌≡◌, ◌+◌, ◌*◌, ◌≤◌}
use Rattle.mt_cells.specs.Instances.{fan_of}
use Rattle.mt_derive.specs.Events.{entries_of}
use Rattle.mt_table.specs.Shapes.{sum_of}
use Rattle.mt_table.specs.Fixed.{StandsOn}
use Rattle.mt_table.proofs.work.Work.rebuild.Given as goal

abbrev pub invariant-loop-earlier : goal.invariant-loop-earlier
invariant-loop-earlier g l = (l.self.bounds ≡ l.fn.self.bounds) × (l.self.rules ≡ l.fn.self.rules) × StandsOn l.self (entries_of l.imports.events) (l.earlier + 1)
    × (l.steps ≡ l.fn.steps + l.count) × (l.count ≤ fan_of l.self.bounds * sum_of l.self.values.items)
