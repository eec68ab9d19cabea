use Rattle.mt_cells.specs.Cells.{number}
use Rattle.mt_cells.proofs.CellLemmas.{number_below}
use Rattle.mt_cells.proofs.cells.Cell.number.Goals as goal

pub returns-in-Ooa-clause-value : goal.returns-in-Ooa-clause-value
unfolding number
returns-in-Ooa-clause-value c = rw (c.index.ensures.value, c.per_order.ensures.value, c.arrays_below.ensures.value, c.in-Ooa.is)

pub returns-in-Ooa-clause-below : goal.returns-in-Ooa-clause-below
returns-in-Ooa-clause-below c = rw (returns-in-Ooa-clause-value c) (number_below c.args.bounds c.args.self c.requires)

pub returns-in-Seq-clause-value : goal.returns-in-Seq-clause-value
unfolding number
returns-in-Seq-clause-value c = rw (c.index-in-Seq.ensures.value, c.per_order-in-Seq.ensures.value, c.arrays.ensures.value, c.in-Seq.is)
