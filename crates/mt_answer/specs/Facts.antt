-- What holds over a list of imports, as the answer to a question.
use Rattle.std.specs.Prelude.{◌≡◌, ℕ, ◌-◌, ◌<◌, ◌≤◌, List, [], length, codes, Option, None, Some}
use Rattle.mt_linear.specs.declared.order.Order.{Order}
use Rattle.mt_linear.specs.Field.{number_of}
use Rattle.mt_system.specs.declared.claims.Claim.{Claim}
use Rattle.mt_system.specs.declared.claims.Form.{Form}
use Rattle.mt_system.specs.declared.claims.Form.TheVariants as form
use Rattle.mt_system.specs.Statements.{statement_of}
use Rattle.mt_cells.specs.declared.bounds.Bounds.{Bounds}
use Rattle.mt_cells.specs.declared.rules.RuleSet.{RuleSet}
use Rattle.mt_cells.specs.declared.cells.Cell.{Cell}
use Rattle.mt_cells.specs.declared.cells.Cell.TheVariants as cell
use Rattle.mt_cells.specs.declared.asks.Kind.{Kind}
use Rattle.mt_cells.specs.declared.asks.Kind.TheVariants.{Net, Seq}
use Rattle.mt_cells.specs.declared.asks.Question.{Question}
use Rattle.mt_cells.specs.declared.asks.Question.TheVariants.{Value, Tree, Matrix, Table, LeastM, Version, Export}
use Rattle.mt_cells.specs.Asks.{IsFrom1, IsAsked}
use Rattle.mt_derive.specs.declared.events.Event.{Event}
use Rattle.mt_derive.specs.Trees.{IsValue}
use Rattle.mt_derive.specs.Values.{IsSince}
use Rattle.mt_derive.specs.declared.nodes.Node.{Node}
use Rattle.mt_derive.specs.Concluded.{AllConclude}
use Rattle.mt_derive.specs.Events.{entries_of, imports_of}
use Rattle.mt_derive.specs.Nodes.{IsParent, Reaches}
use Rattle.mt_derive.specs.Places.{IsAt}
use Rattle.mt_derive.specs.Systems.{IsSystemOf, Has}
use Rattle.mt_answer.specs.declared.facts.Facts.{Facts}
use Rattle.mt_answer.specs.declared.facts.Fact.{Fact}
use Rattle.mt_answer.specs.declared.facts.Fact.TheVariants as fact
use Rattle.mt_answer.specs.Sheets.{IsTableText, IsExportText}

-- the form of a claim on what is asked for
abbrev pub form_of : Kind → Form
form_of Net = form.Net
form_of Seq = form.Seq
form_of kind = form.Ooa

module _ (b : Bounds) (rules : RuleSet) (E : List Event) where
  -- the nodes of one derivation, parents first: each unfolds to a derivation of what it shows and is one of the last node's, which shows the cell with its greatest value
  pub record IsDerivation (c : Cell) (nodes : List Node) : Type 0 where
    pub concluded : AllConclude b rules (entries_of E) nodes
    pub parents : (n p : ℕ) (node : Node) → IsAt nodes n node → IsParent node.made p → p < n
    pub used : (n : ℕ) → n < length nodes → Reaches nodes (length nodes - 1) n
    pub last : Node
    pub place : IsAt nodes (length nodes - 1) last
    pub cell : last.cell ≡ c
    pub value : IsValue b rules (entries_of E) c last.k

  -- the claim, named `mint`, that the system of a derivation of the cell's greatest value has this value, as it does
  pub record IsClaimed (kind : Kind) (c : Cell) (claim : Claim) : Type 0 where
    pub value : IsValue b rules (entries_of E) c claim.k
    pub made : IsSystemOf (imports_of E) value.tree claim.system
    pub has : Has c claim.system claim.k
    pub said : statement_of claim ≡ record { form = form_of kind; name = codes "mint"; note = []; k = claim.k; system = claim.system }

  -- the net with m columns and s coordinates has the value k or more
  abbrev pub HasNet : Order → ℕ → ℕ → ℕ → Type 0
  HasNet o s k m = (value : ℕ) × IsValue b rules (entries_of E) (cell.Ooa o m s m) value × (k ≤ value)

  -- the least m of such a net, or none where no m within the bounds has one
  abbrev pub IsLeastM : Order → ℕ → ℕ → Option ℕ → Type 0
  IsLeastM o s k None = (m : ℕ) → IsFrom1 b.m_max m → ¬ HasNet o s k m
  IsLeastM o s k (Some m) = IsFrom1 b.m_max m × HasNet o s k m × ((n : ℕ) → IsFrom1 b.m_max n → HasNet o s k n → m ≤ n)

  -- the fact that answers the question
  abbrev pub IsFact : Question → Fact → Type 0
  IsFact (Value a) (fact.Value ask k since) =
      (ask ≡ a) × (c : Cell) × IsAsked b a c × IsValue b rules (entries_of E) c k × IsSince b rules E c since
  IsFact (Tree a) (fact.Tree nodes) = (c : Cell) × IsAsked b a c × IsDerivation c nodes.items
  IsFact (Matrix a) (fact.Matrix claim) = (c : Cell) × IsAsked b a c × IsClaimed a.kind c claim
  IsFact (Table q m) (fact.Sheet text) = (o : Order) × (number_of o ≡ q) × IsTableText b rules E o m text.items
  IsFact (LeastM q s k) (fact.LeastM q' s' k' m) =
      (q' ≡ q) × (s' ≡ s) × (k' ≡ k) × (o : Order) × (number_of o ≡ q) × IsLeastM o s k m
  IsFact Version fact.Version = Unit {0}
  IsFact Export (fact.Sheet text) = IsExportText b rules E text.items
  IsFact question found = ⊥

  -- the fact, and the number of imports
  abbrev pub IsFound : Question → Facts → Type 0
  IsFound question facts = (facts.version ≡ length E) × IsFact question facts.fact
