use Rattle.mt_cells.proofs.CellSearch.{sequence_found}
use Rattle.mt_cells.proofs.cells.sequence_at.Goals as goal

pub returns-clause-number : goal.returns-clause-number
returns-clause-number c = sequence_found c.args.bounds c.args.order c.args.before
