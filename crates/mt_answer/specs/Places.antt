-- Internal: the nodes of a derivation, named by their places among them.
use Rattle.std.specs.Prelude.{◌≡◌, ℕ, ◌<◌, List, length, get_or, AllPairs}
use Rattle.mt_derive.specs.declared.nodes.Made.{Made}
use Rattle.mt_derive.specs.declared.nodes.Made.TheVariants as made
use Rattle.mt_derive.specs.declared.nodes.Node.{Node}
use Rattle.mt_derive.specs.Places.{IsAt}

abbrev pub IsAscending : List ℕ → Type 0
IsAscending numbers = AllPairs (λ p q. p < q) numbers

-- the number stands at this place, counted from 0
abbrev pub StandsAt : List ℕ → ℕ → ℕ → Type 0
StandsAt numbers place number = (place < length numbers) × (get_or numbers place 0 ≡ number)

-- the same, with the places of the parents for their numbers
abbrev pub IsMadeAmong : List ℕ → Made → Made → Type 0
IsMadeAmong numbers (made.One r p) new = (place : ℕ) × StandsAt numbers place p × (new ≡ made.One r place)
IsMadeAmong numbers (made.Two r p q) new = (first second : ℕ) × StandsAt numbers first p × StandsAt numbers second q × (new ≡ made.Two r first second)
IsMadeAmong numbers old new = new ≡ old

-- node n, with the places of its parents
pub record IsNodeAmong (nodes : List Node) (numbers : List ℕ) (n : ℕ) (node : Node) : Type 0 where
  pub old : Node
  pub place : IsAt nodes n old
  pub made : IsMadeAmong numbers old.made node.made
  pub cell : node.cell ≡ old.cell
  pub k : node.k ≡ old.k

-- the nodes of the first of these numbers
abbrev pub AreAmong : List Node → List ℕ → List Node → Type 0
AreAmong nodes numbers list = (place : ℕ) (node : Node) → IsAt list place node → IsNodeAmong nodes numbers (get_or numbers place 0) node
