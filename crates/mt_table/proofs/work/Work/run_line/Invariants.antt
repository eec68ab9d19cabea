use Rattle.std.proofs.Common.{◌≡◌, ◌+◌, ◌≤◌, ◌⊎◌}
use Rattle.mt_cells.specs.Spots.{IsUsed}
use Rattle.mt_table.specs.Works.{Grows}
use Rattle.mt_table.proofs.LineLemmas.{LineTried}
use Rattle.mt_table.proofs.work.Work.run_line.Given as goal

abbrev pub invariant-loop-s : goal.invariant-loop-s
invariant-loop-s g l = Grows l.fn.self l.self × LineTried l.fn.self.bounds l.fn.self.rules l.self l.cell l.line.stage l.line.m l.line.depth l.s
    × (l.steps ≡ l.fn.steps + l.count) × (l.count + 1 ≤ l.s) × ((l.count ≡ 0) ⊎ IsUsed l.line.stage)
