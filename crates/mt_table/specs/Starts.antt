-- Internal: a reader need not believe this.
-- The start of a table: the best axiom of each cell.
use Rattle.std.specs.Prelude.{◌≡◌, ℕ, ◌<◌, ltb, Bool, false, List, get_or}
use Rattle.mt_cells.specs.declared.bounds.Bounds.{Bounds}
use Rattle.mt_cells.specs.declared.cells.Cell.{Cell}
use Rattle.mt_cells.specs.Cells.{InBounds, number}
use Rattle.mt_derive.specs.declared.nodes.Node.{Node}
use Rattle.mt_derive.specs.Axioms.{IsBestAxiom}
use Rattle.mt_derive.specs.Places.{IsAt}

-- the first n nodes are those of the cells before number n, in their order, each with the best axiom of its cell
abbrev pub StartsWithAxioms : Bounds → List Node → ℕ → Type 0
StartsWithAxioms b nodes n =
    (j : ℕ) → j < n → (c : Cell) × InBounds b c × (number b c ≡ j) × ((node : Node) × IsAt nodes j node × IsBestAxiom c node)

-- the cell of number j has node j with its value, and waits where that is over 0
abbrev pub IsSet : List Node → List ℕ → List ℕ → List Bool → ℕ → Type 0
IsSet nodes values node_numbers flags j =
    (node : Node) × IsAt nodes j node × (get_or values j 0 ≡ node.k) × (get_or node_numbers j 0 ≡ j) × (get_or flags j false ≡ ltb 0 node.k)

-- so have the cells before number n
abbrev pub AreSet : List Node → List ℕ → List ℕ → List Bool → ℕ → Type 0
AreSet nodes values node_numbers flags n = (j : ℕ) → j < n → IsSet nodes values node_numbers flags j
