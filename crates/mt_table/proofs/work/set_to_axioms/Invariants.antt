use Rattle.std.proofs.Common.{◌≡◌, length}
use Rattle.mt_cells.specs.Cells.{cells_of}
use Rattle.mt_table.specs.Starts.{AreSet}
use Rattle.mt_table.proofs.work.set_to_axioms.Given as goal

abbrev pub invariant-loop-n : goal.invariant-loop-n
invariant-loop-n l = (length l.values.items ≡ cells_of l.fn.bounds) × (length l.node_numbers.items ≡ cells_of l.fn.bounds) × (length l.flags.items ≡ cells_of l.fn.bounds)
    × AreSet l.nodes.list l.values.items l.node_numbers.items l.flags.items l.n
