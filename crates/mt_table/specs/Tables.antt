-- What a table is to its callers.
use Rattle.std.specs.Prelude.{◌≡◌, ℕ, ◌+◌, ◌*◌, ◌≤◌, List, [], ◌∷◌, ◌++◌, get_or}
use Rattle.mt_cells.specs.declared.bounds.Bounds.{Bounds}
use Rattle.mt_cells.specs.declared.cells.Cell.{Cell}
use Rattle.mt_cells.specs.declared.rules.RuleSet.{RuleSet}
use Rattle.mt_cells.specs.Cells.{columns_of, number}
use Rattle.mt_cells.specs.Instances.{fan_of}
use Rattle.mt_derive.specs.Trees.{IsValue}
use Rattle.mt_derive.specs.declared.nodes.Node.{Node}
use Rattle.mt_derive.specs.Concluded.{IsConcluded}
use Rattle.mt_derive.specs.declared.events.Event.{Event}
use Rattle.mt_derive.specs.declared.events.Event.TheVariants.{Import, Withdraw}
use Rattle.mt_derive.specs.Events.{entries_of}
use Rattle.mt_derive.specs.Values.{IsScore}
use Rattle.mt_derive.specs.Nodes.{NodeList}
use Rattle.mt_derive.specs.Places.{IsAt}

-- a table over a list of events: the nodes of its derivations, and the number of a node for each cell, by the cell's number
pub record Contents : Type 0 where
  pub bounds : Bounds
  pub rules : RuleSet
  pub events : List Event
  pub nodes : NodeList
  pub node_numbers : List ℕ

-- the node that the table names for a cell
abbrev pub node_number_of : Contents → Cell → ℕ
node_number_of t c = get_or t.node_numbers (number t.bounds c) 0

-- node n shows the cell with its greatest value, and unfolds to a tree that concludes it
pub record IsServed (t : Contents) (c : Cell) (n : ℕ) : Type 0 where
  pub node : Node
  pub place : IsAt t.nodes.list n node
  pub cell : node.cell ≡ c
  pub value : IsValue t.bounds t.rules (entries_of t.events) c node.k
  pub within : node.k ≤ columns_of c
  pub concluded : IsConcluded t.bounds t.rules (entries_of t.events) t.nodes.list n node

-- so many instances are tried when the event comes: for an import at most fan for each one by which the score rises, for a withdrawal at most fan for each one of the new score
abbrev pub HasTried : Bounds → RuleSet → List Event → Event → ℕ → Type 0
HasTried b rules E (Import c) tried =
    (score rise : ℕ) × IsScore b rules (entries_of E) score × IsScore b rules (entries_of (E ++ Import c ∷ [])) (score + rise) × (tried ≤ fan_of b * rise)
HasTried b rules E (Withdraw n) tried =
    (score : ℕ) × IsScore b rules (entries_of (E ++ Withdraw n ∷ [])) score × (tried ≤ fan_of b * score)
