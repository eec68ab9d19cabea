use Rattle.std.proofs.Common.{◌≡◌, ◌+◌, ◌-◌}
use Rattle.mt_cells.specs.Spots.{key, end_key}
use Rattle.mt_table.specs.Works.{Grows}
use Rattle.mt_table.proofs.LineLemmas.{LinesTried}
use Rattle.mt_table.proofs.StepLemmas.{Spends}
use Rattle.mt_table.proofs.work.Work.try_all.Given as goal

abbrev pub invariant-loop-line : goal.invariant-loop-line
invariant-loop-line g l = (l.lines.bounds ≡ l.fn.self.bounds) × (l.lines.rules ≡ l.fn.self.rules) × (l.lines.cell ≡ l.cell)
    × Grows l.fn.self l.self
    × LinesTried l.fn.self.bounds l.fn.self.rules l.self l.cell (key l.lines.stage l.lines.m l.lines.depth)
    × (l.steps ≡ l.fn.steps + l.count)
    × Spends l.fn.self.bounds (key l.lines.stage l.lines.m l.lines.depth) l.count

abbrev pub decreases-loop-line : goal.decreases-loop-line
decreases-loop-line g l = end_key - key l.lines.stage l.lines.m l.lines.depth
