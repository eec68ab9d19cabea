use Rattle.std.proofs.Common.{◌≡◌, ◌≤◌, List, length}
use Rattle.mt_cells.specs.declared.cells.Cell.{Cell}
use Rattle.mt_table.specs.Marks.{AreOther}
use Rattle.mt_table.proofs.MarkLemmas.{AreMarked}
use Rattle.mt_table.proofs.changes.Changes.mark.Given as goal

abbrev pub invariant-loop-n : goal.invariant-loop-n
invariant-loop-n l = (l.self.bounds ≡ l.fn.self.bounds) × (l.self.kept.items ≡ l.fn.self.kept.items)
    × AreMarked l.fn.self.kept.items l.values l.fn.self.sinces.items l.self.sinces.items l.event l.n
    × ((cells : List Cell) × AreOther l.fn.self.bounds l.fn.self.kept.items l.values l.n cells × (l.count ≡ length cells)) × (l.count ≤ l.n)
