-- Internal: a reader need not believe this.
-- What the rules do to the values of cells.
use Rattle.std.specs.Prelude.{◌≡◌, ℕ, ◌+◌, ◌*◌, ◌<◌, ◌≤◌, ◌⊎◌, Bool, true, false, cond, Option, None, Some, List, [], ◌∷◌, ◌++◌, length, get_or, slice_set}
use Rattle.std.specs.List.{sum_by}
use Rattle.mt_cells.specs.declared.cells.Cell.{Cell}
use Rattle.mt_cells.specs.declared.instances.Instance.{Instance}
use Rattle.mt_cells.specs.Cells.{number, cells_of}
use Rattle.mt_cells.specs.declared.lines.Line.{Line}
use Rattle.mt_cells.specs.Instances.{IsInstance, HasParent, fan_of}
use Rattle.mt_cells.specs.Spots.{IsSpot, IsRightLine, instance_at}
use Rattle.mt_derive.specs.Closed.{second_of, IsDone}
use Rattle.mt_derive.specs.Trees.{Entry, imported, Concludes}
use Rattle.mt_derive.specs.declared.nodes.Made.{Made}
use Rattle.mt_derive.specs.declared.nodes.Made.TheVariants as made
use Rattle.mt_cells.specs.declared.rules.Rule.{Rule}
use Rattle.mt_derive.specs.declared.nodes.Node.{Node}
use Rattle.mt_derive.specs.Concluded.{AllConclude}
use Rattle.mt_derive.specs.Places.{IsAt}
use Rattle.mt_table.specs.declared.work.Work.{Work}
use Rattle.mt_table.specs.Shapes.{sum_of}
use Rattle.mt_table.specs.Needs.{IsNeeded, IsPart}
use Rattle.mt_table.specs.Starts.{StartsWithAxioms, AreSet}

-- ---- the values

-- by number
abbrev pub values_of : Work → ℕ → ℕ
values_of w n = get_or w.values.items n 0

abbrev pub value_in : Work → Cell → ℕ
value_in w c = get_or w.values.items (number w.bounds c) 0

-- the number of the cell's node
abbrev pub node_number_in : Work → Cell → ℕ
node_number_in w c = get_or w.node_numbers.items (number w.bounds c) 0

-- each node unfolds to a tree that concludes what the node shows
abbrev pub AllShown : Work → List Entry → Type 0
AllShown w L = AllConclude w.bounds w.rules L w.nodes.list

abbrev pub AllDone : Work → Type 0
AllDone w = (i : Instance) → IsInstance w.bounds w.rules i → IsDone (value_in w) i

-- ---- the flags

-- the cell waits to be tried as a parent
abbrev pub IsFlagged : Work → Cell → Type 0
IsFlagged w c = get_or w.flags.items (number w.bounds c) false ≡ true

abbrev pub IsIdle : Work → Type 0
IsIdle w = (n : ℕ) → get_or w.flags.items n false ≡ false

-- the instance is done, or a parent waits
abbrev pub IsPropagated : Work → Instance → Type 0
IsPropagated w i = IsDone (value_in w) i ⊎ (IsFlagged w i.first ⊎ IsFlagged w (second_of i))

-- so is every instance that does not follow from others
abbrev pub AllPropagated : Work → Type 0
AllPropagated w = (i : Instance) → IsInstance w.bounds w.rules i → IsNeeded w.rules i → IsPropagated w i

-- the line is one of the cell's, as a parent
abbrev pub IsLineOf : Work → Cell → Line → Type 0
IsLineOf w c l = IsRightLine w.bounds w.rules c l.stage l.m l.depth l

-- so is a part of it that has the spots of all needed instances
abbrev pub IsNeededLine : Work → Cell → Line → Type 0
IsNeededLine w c l = IsPart w.bounds w.rules c l.stage l.m l.depth l.skip l.first l.last

-- the needed instances of the line in v are propagated in w
abbrev pub LinePropagated : Work → Cell → Line → Work → Type 0
LinePropagated v c l w = (s : ℕ) → IsSpot v.bounds v.rules c l.stage l.m l.depth s → IsNeeded v.rules (instance_at c l.stage l.m l.depth s) → IsPropagated w (instance_at c l.stage l.m l.depth s)

-- the needed instances with the parent in v are propagated in w
abbrev pub ParentPropagated : Work → Cell → Work → Type 0
ParentPropagated v c w = (i : Instance) → IsInstance v.bounds v.rules i → HasParent c i → IsNeeded v.rules i → IsPropagated w i

-- ---- steps

abbrev pub waiting : List Bool → ℕ
waiting flags = sum_by (λ f. cond f 1 0) flags

-- the nodes stay where they stand
abbrev pub AllStay : List Node → List Node → Type 0
AllStay nodes more = (n : ℕ) (node : Node) → IsAt nodes n node → IsAt more n node

-- values rise, and what rises waits
pub record Grows (v w : Work) : Type 0 where
  pub bounds : w.bounds ≡ v.bounds
  pub rules : w.rules ≡ v.rules
  pub values : (n : ℕ) → get_or v.values.items n 0 ≤ get_or w.values.items n 0
  pub flags : (n : ℕ) → get_or v.flags.items n false ≡ true → get_or w.flags.items n false ≡ true
  pub changed : (n : ℕ) → (get_or w.values.items n 0 ≡ get_or v.values.items n 0) ⊎ (get_or w.flags.items n false ≡ true)
  pub rise : sum_of v.values.items + waiting w.flags.items ≤ sum_of w.values.items + waiting v.flags.items
  pub nodes : AllStay v.nodes.list w.nodes.list
  pub shown : (L : List Entry) → AllShown v L → AllShown w L

-- the rule with its parents' numbers
abbrev pub made_by : Rule → Option Cell → ℕ → ℕ → Made
made_by r None p q = made.One r p
made_by r (Some second) p q = made.Two r p q

-- the rule with the nodes of the instance's parents
abbrev pub made_of : Work → Instance → Made
made_of v i = made_by i.rule i.second (node_number_in v i.first) (node_number_in v (second_of i))

-- the node of what the instance concludes from the values of its parents
abbrev pub node_by : Work → Instance → ℕ → Node
node_by v i k = record { made = made_of v i; cell = i.target; k = k }

-- the cell of the node has its value now, by this node, and waits
pub record IsPut (v w : Work) (node : Node) : Type 0 where
  pub bounds : w.bounds ≡ v.bounds
  pub rules : w.rules ≡ v.rules
  pub values : w.values.items ≡ slice_set v.values.items (number v.bounds node.cell) node.k
  pub flags : w.flags.items ≡ slice_set v.flags.items (number v.bounds node.cell) true
  pub nodes : w.nodes.list ≡ v.nodes.list ++ node ∷ []

-- the value of the instance's target is k now, by one more node, and the target waits
abbrev pub IsRaised : Work → Work → Instance → ℕ → Type 0
IsRaised v w i k = IsPut v w (node_by v i k)

-- the cell of number n waits no more
pub record IsTaken (v w : Work) (n : ℕ) : Type 0 where
  pub bounds : w.bounds ≡ v.bounds
  pub rules : w.rules ≡ v.rules
  pub values : w.values.items ≡ v.values.items
  pub nodes : w.nodes ≡ v.nodes
  pub below : n < cells_of v.bounds
  pub was : get_or v.flags.items n false ≡ true
  pub flags : w.flags.items ≡ slice_set v.flags.items n false

-- no cell waits
pub record IsOver (v w : Work) : Type 0 where
  pub bounds : w.bounds ≡ v.bounds
  pub rules : w.rules ≡ v.rules
  pub values : w.values.items ≡ v.values.items
  pub nodes : w.nodes ≡ v.nodes
  pub flags : w.flags.items ≡ v.flags.items
  pub idle : IsIdle w

-- what a propagation has done so far
pub record Rises (v w : Work) : Type 0 where
  pub bounds : w.bounds ≡ v.bounds
  pub rules : w.rules ≡ v.rules
  pub values : (n : ℕ) → get_or v.values.items n 0 ≤ get_or w.values.items n 0
  pub nodes : AllStay v.nodes.list w.nodes.list
  pub shown : (L : List Entry) → AllShown v L → AllShown w L

-- all instances were tried until none rose
pub record Propagates (v w : Work) : Type 0 where
  pub bounds : w.bounds ≡ v.bounds
  pub rules : w.rules ≡ v.rules
  pub values : (n : ℕ) → get_or v.values.items n 0 ≤ get_or w.values.items n 0
  pub nodes : AllStay v.nodes.list w.nodes.list
  pub shown : (L : List Entry) → AllShown v L → AllShown w L
  pub done : AllDone w
  pub idle : IsIdle w

-- w is as v
pub record IsCopy (v w : Work) : Type 0 where
  pub bounds : w.bounds ≡ v.bounds
  pub rules : w.rules ≡ v.rules
  pub values : w.values.items ≡ v.values.items
  pub node_numbers : w.node_numbers.items ≡ v.node_numbers.items
  pub nodes : w.nodes ≡ v.nodes
  pub flags : w.flags.items ≡ v.flags.items

-- ---- the number of instances that are tried

-- at most fan for each cell that was taken out; each such cell waited, or its value rose
pub record Pays (v w : Work) (tried : ℕ) : Type 0 where
  pub taken : ℕ
  pub bound : tried ≤ fan_of v.bounds * taken
  pub paid : taken + sum_of v.values.items + waiting w.flags.items ≤ sum_of w.values.items + waiting v.flags.items

-- at most fan for each rise of a value by one
pub record Tries (v w : Work) (tried : ℕ) : Type 0 where
  pub rise : ℕ
  pub score : sum_of v.values.items + rise ≡ sum_of w.values.items
  pub bound : tried ≤ fan_of v.bounds * rise

-- ---- axioms and imports

-- each cell has the value of its axiom, by a node of its own, and waits where that is over 0
pub record IsStart (w : Work) : Type 0 where
  pub count : length w.nodes.list ≡ cells_of w.bounds
  pub axioms : StartsWithAxioms w.bounds w.nodes.list (cells_of w.bounds)
  pub set : AreSet w.nodes.list w.values.items w.node_numbers.items w.flags.items (cells_of w.bounds)

-- the values have what the node of an import says, and every instance is done
pub record Accepts (v w : Work) (node : Node) : Type 0 where
  pub bounds : w.bounds ≡ v.bounds
  pub rules : w.rules ≡ v.rules
  pub values : (n : ℕ) → get_or v.values.items n 0 ≤ get_or w.values.items n 0
  pub nodes : AllStay v.nodes.list w.nodes.list
  pub shown : (L : List Entry) (n : ℕ) → node.made ≡ made.Import n → Concludes v.bounds v.rules L (imported n) node.cell node.k
      → AllShown v L → AllShown w L
  pub held : node.k ≤ value_in w node.cell
  pub done : AllDone w
  pub idle : IsIdle w
