use Rattle.mt_cells.proofs.CellLemmas.{number_below, number_apart, number_ordered}
use Rattle.mt_cells.proofs.laws.numbers.Goals as goal

pub returns-clause-below : goal.returns-clause-below
returns-clause-below c = number_below

pub returns-clause-apart : goal.returns-clause-apart
returns-clause-apart c = number_apart

pub returns-clause-ordered : goal.returns-clause-ordered
returns-clause-ordered c = number_ordered
