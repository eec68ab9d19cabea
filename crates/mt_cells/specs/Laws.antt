-- The laws of the numbers of cells.
use Rattle.std.specs.Prelude.{◌≡◌, ◌<◌}
use Rattle.mt_cells.specs.declared.bounds.Bounds.{Bounds}
use Rattle.mt_cells.specs.declared.cells.Cell.{Cell}
use Rattle.mt_cells.specs.Cells.{InBounds, Before, number, cells_of}

abbrev pub NumbersAreBelow : Bounds → Type 0
NumbersAreBelow b = (c : Cell) → InBounds b c → number b c < cells_of b

-- two cells of one number are the same
abbrev pub NumbersAreApart : Bounds → Type 0
NumbersAreApart b = (c d : Cell) → InBounds b c → InBounds b d → number b c ≡ number b d → c ≡ d

-- the numbers go up with the order of cells
abbrev pub NumbersAreOrdered : Bounds → Type 0
NumbersAreOrdered b = (c d : Cell) → InBounds b c → InBounds b d → Before c d → number b c < number b d
