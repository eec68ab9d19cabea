-- Internal: a reader need not believe this.
-- That a cell is in the bounds has one proof at most, as a ghost field wants.
use Rattle.std.proofs.Props.{props}
use Rattle.mt_cells.specs.declared.bounds.Bounds.{Bounds}
use Rattle.mt_cells.specs.declared.cells.Cell.{Cell}
use Rattle.mt_cells.specs.declared.cells.Cell.TheVariants.{Ooa, Seq}
use Rattle.mt_cells.specs.Cells.{InBounds}

pub InBounds-prop : (b : Bounds) (c : Cell) → IsProp (InBounds b c)
InBounds-prop b (Ooa o m s depth) = hlevel props
InBounds-prop b (Seq o m s) = hlevel props
