-- The texts of answers on the command line. Each ends with a line feed.
use Rattle.std.specs.Prelude.{ℕ, ◌+◌, ◌-◌, List, [], ◌∷◌, ◌++◌, codes, decimal}
use Rattle.mt_system.specs.Statements.{statement_of}
use Rattle.mt_import.specs.Canonical.{canonical_text}
use Rattle.mt_derive.specs.declared.nodes.Made.{Made}
use Rattle.mt_derive.specs.declared.nodes.Made.TheVariants as made
use Rattle.mt_derive.specs.declared.nodes.Node.{Node}
use Rattle.mt_cells.specs.declared.asks.Kind.{Kind}
use Rattle.mt_cells.specs.declared.asks.Kind.TheVariants.{Ooa}
use Rattle.mt_cells.specs.declared.asks.Ask.{Ask}
use Rattle.mt_cells.specs.declared.asks.Part.{Part}
use Rattle.mt_cells.specs.Texts.{kind_text, outside_text, cell_text, rule_text}
use Rattle.mt_answer.specs.declared.facts.Fact.{Fact}
use Rattle.mt_answer.specs.declared.facts.Fact.TheVariants as fact

-- the line for a question outside the bounds
abbrev pub outside_line_text : Part → ℕ → List ℕ
outside_line_text name number = outside_text name number ++ 10 ∷ []

-- ---- values

-- the depth is shown for kind ooa alone
abbrev pub depth_text : Kind → ℕ → List ℕ
depth_text Ooa depth = 32 ∷ decimal depth
depth_text kind depth = []

-- `KIND Q M S`, and for kind ooa ` DEPTH`
abbrev pub ask_text : Ask → List ℕ
ask_text a = kind_text a.kind ++ 32 ∷ decimal a.q ++ 32 ∷ decimal a.m ++ 32 ∷ decimal a.s ++ depth_text a.kind a.depth

-- the value k of what is asked for, with t = m - k
abbrev pub value_text : Ask → ℕ → ℕ → ℕ → List ℕ
value_text a k since version =
    ask_text a ++ codes ": k " ++ decimal k ++ codes ", t " ++ decimal (a.m - k) ++ codes ", since " ++ decimal since ++ codes ", version " ++ decimal version ++ 10 ∷ []

-- ---- derivations

-- the axiom, the import or the rule
abbrev pub made_text : Made → List ℕ
made_text made.Zero = codes "zero"
made_text made.Constant = codes "constant"
made_text made.Identity = codes "identity"
made_text made.Parity = codes "parity"
made_text made.Niederreiter = codes "niederreiter"
made_text (made.Import n) = codes "import/" ++ decimal n
made_text (made.One r p) = rule_text r
made_text (made.Two r p q) = rule_text r

-- the parents, numbered from 1
abbrev pub parents_text : Made → List ℕ
parents_text (made.One r p) = decimal (p + 1)
parents_text (made.Two r p q) = decimal (p + 1) ++ 44 ∷ decimal (q + 1)
parents_text made = codes "-"

-- `NUMBER RULE PARENTS CELL k VALUE`
abbrev pub node_text : ℕ → Node → List ℕ
node_text number node =
    decimal number ++ (32 ∷ made_text node.made ++ 32 ∷ parents_text node.made) ++ (32 ∷ cell_text node.cell ++ codes " k " ++ decimal node.k ++ 10 ∷ [])

-- a line for each node, numbered from this number on
unfoldable pub nodes_text : ℕ → List Node → List ℕ
nodes_text number [] = []
nodes_text number (node ∷ nodes) = node_text number node ++ nodes_text (number + 1) nodes

-- ---- answers

-- the text of what holds over so many imports; the command line asks for neither of the last two
abbrev pub text_of : Fact → ℕ → List ℕ
text_of (fact.Value a k since) version = value_text a k since version
text_of (fact.Tree nodes) version = nodes_text 1 nodes.items
text_of (fact.Matrix claim) version = canonical_text (statement_of claim)
text_of (fact.Sheet text) version = text.items
text_of (fact.LeastM q s k m) version = []
text_of fact.Version version = []
