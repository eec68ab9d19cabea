-- The line of a change.
use Rattle.std.specs.Prelude.{ℕ, List, [], ◌∷◌, ◌++◌, codes, decimal, flat_map}
use Rattle.mt_cells.specs.Texts.{cell_text}
use Rattle.mt_feed.specs.declared.Change.{Change}

-- `VERSION CELL k VALUE`, and a line feed
abbrev pub change_line : Change → List ℕ
change_line c = decimal c.version ++ 32 ∷ cell_text c.cell ++ codes " k " ++ decimal c.k ++ 10 ∷ []

-- the lines of changes, one after the other
abbrev pub change_lines : List Change → List ℕ
change_lines changes = flat_map change_line changes
