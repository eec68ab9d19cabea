-- What the bodies of answers over HTTP say, as JSON data. Keys stand in byte order.
use Rattle.std.specs.Prelude.{ℕ, ◌+◌, ◌-◌, List, [], ◌∷◌, codes, Option, None, Some}
use Rattle.serde_json.specs.Data.{Data, null, number, unsigned, string, array, object, Members, no_members, member}
use Rattle.serde_json.specs.View.{items_of}
use Rattle.mt_cells.specs.declared.asks.Kind.{Kind}
use Rattle.mt_cells.specs.declared.asks.Kind.TheVariants.{Oa, Ooa}
use Rattle.mt_cells.specs.declared.asks.Ask.{Ask}
use Rattle.mt_cells.specs.declared.asks.Part.{Part}
use Rattle.mt_cells.specs.Texts.{kind_text, part_text, cell_text}
use Rattle.mt_derive.specs.declared.nodes.Made.{Made}
use Rattle.mt_derive.specs.declared.nodes.Made.TheVariants as made
use Rattle.mt_derive.specs.declared.nodes.Node.{Node}
use Rattle.mt_answer.specs.Texts.{made_text}

abbrev pub natural : ℕ → Data
natural n = number (unsigned n)

-- keys and what they have
abbrev pub members : List (List ℕ × Data) → Members
members [] = no_members
members (m ∷ ms) = member m.0 m.1 (members ms)

-- ---- values

-- the depth of what is asked for: m for a net and a sequence
abbrev pub depth_of : Kind → ℕ → ℕ → ℕ
depth_of Oa m depth = 1
depth_of Ooa m depth = depth
depth_of kind m depth = m

-- the value k of what is asked for, with t = m - k
abbrev pub value_data : Ask → ℕ → ℕ → ℕ → Data
value_data a k since version = object (members (
    (codes "depth", natural (depth_of a.kind a.m a.depth))
    ∷ (codes "k", natural k)
    ∷ (codes "kind", string (kind_text a.kind))
    ∷ (codes "m", natural a.m)
    ∷ (codes "q", natural a.q)
    ∷ (codes "s", natural a.s)
    ∷ (codes "since", natural since)
    ∷ (codes "t", natural (a.m - k))
    ∷ (codes "version", natural version)
    ∷ []))

abbrev pub number_or_null : Option ℕ → Data
number_or_null None = null
number_or_null (Some n) = natural n

-- the least m, where there is one
abbrev pub least_data : ℕ → ℕ → ℕ → Option ℕ → ℕ → Data
least_data q s k m version = object (members (
    (codes "k", natural k)
    ∷ (codes "m", number_or_null m)
    ∷ (codes "q", natural q)
    ∷ (codes "s", natural s)
    ∷ (codes "version", natural version)
    ∷ []))

abbrev pub version_data : ℕ → Data
version_data version = object (members ((codes "version", natural version) ∷ []))

-- ---- derivations

-- the parents, numbered from 1
abbrev pub parents_data : Made → List Data
parents_data (made.One r p) = natural (p + 1) ∷ []
parents_data (made.Two r p q) = natural (p + 1) ∷ natural (q + 1) ∷ []
parents_data made = []

abbrev pub node_data : ℕ → Node → Data
node_data n node = object (members (
    (codes "cell", string (cell_text node.cell))
    ∷ (codes "k", natural node.k)
    ∷ (codes "node", natural n)
    ∷ (codes "parents", array (items_of (parents_data node.made)))
    ∷ (codes "rule", string (made_text node.made))
    ∷ []))

-- the nodes, numbered from this number on
unfoldable pub nodes_data : ℕ → List Node → List Data
nodes_data n [] = []
nodes_data n (node ∷ nodes) = node_data n node ∷ nodes_data (n + 1) nodes

abbrev pub tree_data : List Node → ℕ → Data
tree_data nodes version = object (members (
    (codes "nodes", array (items_of (nodes_data 1 nodes)))
    ∷ (codes "version", natural version)
    ∷ []))

-- ---- refusals

-- the first number that is outside the bounds
abbrev pub outside_data : Part → ℕ → Data
outside_data name n = object (members (
    (codes "error", string (codes "outside"))
    ∷ (codes "name", string (part_text name))
    ∷ (codes "number", natural n)
    ∷ []))
