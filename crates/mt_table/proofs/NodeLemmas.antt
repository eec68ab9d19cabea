-- The node of an instance: it is right, it concludes what the instance does, and there is room for it.
use Rattle.std.proofs.Common.{◌≡◌, ◌≢◌, ℕ, suc, ◌+◌, ◌<◌, ◌≤◌, ⊎_elim, Bool, true, false, Option, Some, None, List, [], ◌∷◌, ◌++◌, length, get_or, refl, sym, ap, ◌∙◌, arith, get_or-set_same, get_or-set_other, length-append, length-set}
use Rattle.std.proofs.Math.ListN.{set}
use Rattle.std.proofs.Math.Bridge.{le_prop}
use Rattle.std.proofs.Math.Logic.{∥∥₁_elim, ∥∥₁_map}
use Rattle.std.proofs.lemmas.Bool.{cases_eq}
use Rattle.std.proofs.lemmas.List.Sums.{sum_by-set, sum_by-cons}
use Rattle.mt_cells.specs.declared.bounds.Bounds.{Bounds}
use Rattle.mt_cells.specs.declared.cells.Cell.{Cell}
use Rattle.mt_cells.specs.declared.rules.Rule.{Rule}
use Rattle.mt_cells.specs.declared.instances.Instance.{Instance}
use Rattle.mt_cells.specs.Cells.{InBounds, columns_of, number, cells_of}
use Rattle.mt_cells.specs.Instances.{IsInstance, Leads, conclusion_by, conclusion_of}
use Rattle.mt_cells.specs.Instances.{second_or}
use Rattle.mt_derive.specs.Closed.{second_of}
use Rattle.mt_derive.specs.Trees.{Entry, Tree, one, two, step, Concludes}
use Rattle.mt_cells.proofs.CellLemmas.{number_below, number_apart}
use Rattle.mt_cells.proofs.SpotLemmas.{inside}
use Rattle.mt_cells.proofs.RuleLemmas.{conclusion_within, conclusion_least, pair_least_parent}
use Rattle.mt_derive.proofs.TreeLemmas.{one_concluded, two_concluded}
use Rattle.mt_derive.specs.declared.nodes.Node.{Node}
use Rattle.mt_derive.specs.Concluded.{IsConcluded}
use Rattle.mt_derive.specs.Nodes.{IsRight, IsRightBy, IsTreeOf, NodeList, no_node}
use Rattle.mt_derive.specs.Places.{IsAt}
use Rattle.mt_derive.proofs.ConcludedLemmas.{place_longer, tree_longer}
use Rattle.mt_derive.proofs.PlaceLemmas.{place_at, place_below, place_index, place_last}
use Rattle.mt_table.specs.declared.work.Work.{Work}
use Rattle.mt_table.specs.Shapes.{NoneBefore, sum_of, Shows, ArePlaced, HasRoom}
use Rattle.mt_table.specs.Works.{value_in, node_number_in, AllShown, made_by, node_by}

-- ---- the nodes of cells

-- node n, as a member of the list, shows the cell with value k
abbrev pub Holds : List Node → ℕ → Cell → ℕ → Type 0
Holds nodes n c k = (node : Node) × IsAt nodes n node × (node.cell ≡ c) × (node.k ≡ k)

pub held : (b : Bounds) (nodes : List Node) (n : ℕ) (c : Cell) (k : ℕ) → InBounds b c → Shows b nodes n c k → Holds nodes n c k
held b nodes n c k h s = (get_or nodes n no_node, place_at nodes n no_node s.0, number_apart b _ c s.1 h s.2, s.3)

pub shows : (b : Bounds) (nodes : List Node) (n : ℕ) (c : Cell) (k : ℕ) → InBounds b c → Holds nodes n c k → Shows b nodes n c k
shows b nodes n c k h (node, at, cell, value) =
    rw (place_index nodes n node no_node at) (place_below nodes n node at, rw cell h, ap (number b) cell, value)

pub cell_node : (v : Work) (c : Cell) → InBounds v.bounds c → Holds v.nodes.list (node_number_in v c) c (value_in v c)
cell_node v c h = held v.bounds v.nodes.list (node_number_in v c) c (value_in v c) h (v.placed c h)

-- ---- the new node

-- by the second parent, where there is one
right_by : (v : Work) (r : Rule) (t p : Cell) (q : Option Cell) (k : ℕ) → InBounds v.bounds p → Leads v.bounds r t p q → k ≡ conclusion_by r p q (value_in v p) (value_in v (second_or p q)) → 0 < k
    → IsRightBy (made_by r q (node_number_in v p) (node_number_in v (second_or p q))) v.nodes.list (record { made = made_by r q (node_number_in v p) (node_number_in v (second_or p q)); cell = t; k = k })
right_by v r t p None k h leads e l =
    let parent : Holds v.nodes.list (node_number_in v p) p (value_in v p) = cell_node v p h in (
      parent.0,
      parent.1,
      record {
        bounds = v.bounds;
        inside = rw parent.2 h;
        leads = rw parent.2 leads;
        least = rw parent.3 (conclusion_least r p (value_in v p) (rw e at l));
        k = rw (parent.2, parent.3) e;
      },
    )
right_by v r t p (Some q) k h leads e l =
    let first : Holds v.nodes.list (node_number_in v p) p (value_in v p) = cell_node v p h in
    let second : Holds v.nodes.list (node_number_in v q) q (value_in v q) = cell_node v q leads.0 in (
      first.0,
      second.0,
      first.1,
      second.1,
      record {
        bounds = v.bounds;
        inside = rw first.2 h;
        leads = rw (first.2, second.2) leads;
        least = rw (pair_least_parent v.bounds r p q leads.1) (omega arith);
        k = rw (first.2, second.2, first.3, second.3) e;
      },
    )

pub node_right : (v : Work) (i : Instance) (k : ℕ) → IsInstance v.bounds v.rules i → k ≡ conclusion_of i (value_in v i.first) (value_in v (second_of i)) → 0 < k → IsRight v.nodes.list (node_by v i k)
node_right v i k h e l = ((v.bounds, (inside v.bounds v.rules i h).0), right_by v i.rule i.target i.first i.second k h.first h.leads e l)

-- a node that shows the cell and the value unfolds to a tree that concludes them
pub shown_tree : (v : Work) (L : List Entry) (n : ℕ) (c : Cell) (k : ℕ) → AllShown v L → Holds v.nodes.list n c k → (t : Tree) × IsTreeOf v.nodes.list n t × Concludes v.bounds v.rules L t c k
shown_tree v L n c k all (node, at, cell, value) =
    let x : IsConcluded v.bounds v.rules L v.nodes.list n node = all n node at in
    (x.tree, x.unfolds, (x.concludes.0, x.concludes.1 ∙ cell, x.concludes.2 ∙ value))

tree_by : (v : Work) (L : List Entry) (r : Rule) (t p : Cell) (q : Option Cell) (k : ℕ) (node : Node) → AllShown v L → IsInstance v.bounds v.rules (step r t p q)
    → k ≡ conclusion_by r p q (value_in v p) (value_in v (second_or p q)) → 0 < k → node.made ≡ made_by r q (node_number_in v p) (node_number_in v (second_or p q)) → node.cell ≡ t → node.k ≡ k
    → IsConcluded v.bounds v.rules L (v.nodes.list ++ node ∷ []) (length v.nodes.list) node
tree_by v L r t p None k node all h e l made cell value =
    let first : (t : Tree) × IsTreeOf v.nodes.list (node_number_in v p) t × Concludes v.bounds v.rules L t p (value_in v p) = shown_tree v L (node_number_in v p) p (value_in v p) all (cell_node v p h.first) in
    record {
      tree = one r t first.0;
      unfolds = (node, place_last v.nodes.list node, node_number_in v p, made, cell, tree_longer v.nodes.list (node ∷ []) (node_number_in v p) first.0 first.1);
      concludes = rw (cell, value, e) (one_concluded v.bounds v.rules L r t p h first.0 (value_in v p) first.2 (rw e at l));
    }
tree_by v L r t p (Some q) k node all h e l made cell value =
    let first : (t : Tree) × IsTreeOf v.nodes.list (node_number_in v p) t × Concludes v.bounds v.rules L t p (value_in v p) = shown_tree v L (node_number_in v p) p (value_in v p) all (cell_node v p h.first) in
    let second : (t : Tree) × IsTreeOf v.nodes.list (node_number_in v q) t × Concludes v.bounds v.rules L t q (value_in v q) = shown_tree v L (node_number_in v q) q (value_in v q) all (cell_node v q h.leads.0) in
    record {
      tree = two r t first.0 second.0;
      unfolds = (node, place_last v.nodes.list node, node_number_in v p, node_number_in v q, made, cell, tree_longer v.nodes.list (node ∷ []) (node_number_in v p) first.0 first.1, tree_longer v.nodes.list (node ∷ []) (node_number_in v q) second.0 second.1);
      concludes = rw (cell, value, e) (two_concluded v.bounds v.rules L r t p q h first.0 second.0 (value_in v p) (value_in v q) first.2 second.2);
    }

pub node_concludes : (v : Work) (i : Instance) (k : ℕ) → IsInstance v.bounds v.rules i → k ≡ conclusion_of i (value_in v i.first) (value_in v (second_of i)) → 0 < k
    → (L : List Entry) → AllShown v L → IsConcluded v.bounds v.rules L (v.nodes.list ++ node_by v i k ∷ []) (length v.nodes.list) (node_by v i k)
node_concludes v i k h e l L all = tree_by v L i.rule i.target i.first i.second k (node_by v i k) all h e l refl refl refl

-- the cells keep their nodes, and the target has the new one
pub placed_raised : (b : Bounds) (nodes : List Node) (node_numbers values : List ℕ) (node : Node) (c : Cell) (k : ℕ) → InBounds b c → node.cell ≡ c → node.k ≡ k
    → length node_numbers ≡ cells_of b → length values ≡ cells_of b → ArePlaced b nodes node_numbers values
    → ArePlaced b (nodes ++ node ∷ []) (set node_numbers (number b c) (length nodes)) (set values (number b c) k)
placed_raised b nodes node_numbers values node c k h cell value few count old x inside = shows b _ _ x _ inside (⊎_elim
    (λ (e : number b x ≡ number b c).
    let same : x ≡ c = number_apart b x c inside h e in
    rw (same, get_or-set_same node_numbers (number b c) (length nodes) 0 (rw few (number_below b c h)), get_or-set_same values (number b c) k 0 (rw count (number_below b c h)))
    (node, place_last nodes node, cell, value))
    (λ (ne : number b x ≢ number b c).
    let was : Holds nodes (get_or node_numbers (number b x) 0) x (get_or values (number b x) 0) = held b nodes _ x _ inside (old x inside) in
    rw (get_or-set_other node_numbers (number b c) (number b x) (length nodes) 0 ne, get_or-set_other values (number b c) (number b x) k 0 ne)
    (was.0, place_longer nodes (node ∷ []) (get_or node_numbers (number b x) 0) was.0 was.1, was.2, was.3))
    (cases_eq (number b x) (number b c)))

-- ---- room

sum_low : (xs ys : List ℕ) → length xs ≡ length ys → ((n : ℕ) → get_or xs n 0 ≤ get_or ys n 0) → sum_of xs ≤ sum_of ys
sum_low [] ys e h = omega arith
sum_low (x ∷ xs) [] e h = absurd (omega arith)
sum_low (x ∷ xs) (y ∷ ys) e h =
    let rest : sum_of xs ≤ sum_of ys = sum_low xs ys (omega arith) (λ n. h (suc n)) in
    let first : x ≤ y = h 0 in
    omega (arith, sum_by-cons (λ v. v) x xs, sum_by-cons (λ v. v) y ys)

-- a value that rises, up to the columns of its cell, takes the room of a node
room_by : (b : Bounds) (nodes : NodeList) (values : List ℕ) (c : Cell) (k : ℕ) (node : Node) → InBounds b c → length values ≡ cells_of b → get_or values (number b c) 0 < k → k ≤ columns_of c → HasRoom b nodes values
    → (length nodes.list < nodes.room) × HasRoom b (record { list = nodes.list ++ node ∷ []; room = nodes.room }) (set values (number b c) k)
room_by b nodes values c k node h count l top old = (
  omega (arith, high, sums, old.room),
  record {
    tops = old.tops;
    are = old.are;
    low = low;
    room = omega (arith, length-append nodes.list (node ∷ []), sums, old.room);
    whole = old.whole;
    many = omega (arith, length-append nodes.list (node ∷ []), old.many);
  },
)
  where
    below : number b c < length values
    below = rw count (number_below b c h)

    sums : sum_of (set values (number b c) k) + get_or values (number b c) 0 ≡ sum_of values + k
    sums = sum_by-set (λ v. v) values (number b c) k 0 below

    low : (n : ℕ) → get_or (set values (number b c) k) n 0 ≤ get_or old.tops n 0
    low n = ⊎_elim
        (λ (e : n ≡ number b c). rw (e, get_or-set_same values (number b c) k 0 below, old.are.each c h (number_below b c h)) top)
        (λ (ne : n ≢ number b c). rw (get_or-set_other values (number b c) n k 0 ne) (old.low n))
        (cases_eq n (number b c))

    high : sum_of (set values (number b c) k) ≤ sum_of old.tops
    high = sum_low (set values (number b c) k) old.tops (length-set values (number b c) k ∙ count ∙ sym old.are.count) low

pub room_before : (b : Bounds) (nodes : NodeList) (values : List ℕ) (c : Cell) (k : ℕ) → InBounds b c → length values ≡ cells_of b → get_or values (number b c) 0 < k → k ≤ columns_of c → ∥ HasRoom b nodes values ∥₁ → length nodes.list < nodes.room
room_before b nodes values c k h count l top old = ∥∥₁_elim old le_prop (λ r. (room_by b nodes values c k no_node h count l top r).0)

pub room_after : (b : Bounds) (nodes : NodeList) (values : List ℕ) (c : Cell) (k : ℕ) (node : Node) → InBounds b c → length values ≡ cells_of b → get_or values (number b c) 0 < k → k ≤ columns_of c → ∥ HasRoom b nodes values ∥₁
    → ∥ HasRoom b (record { list = nodes.list ++ node ∷ []; room = nodes.room }) (set values (number b c) k) ∥₁
room_after b nodes values c k node h count l top old = ∥∥₁_map old (λ r. (room_by b nodes values c k node h count l top r).1)

-- a value is at most the columns of its cell
pub value_within : (v : Work) (c : Cell) → InBounds v.bounds c → value_in v c ≤ columns_of c
value_within v c h = ∥∥₁_elim v.roomy le_prop (λ r. rw (r.are.each c h (number_below v.bounds c h)) at (r.low (number v.bounds c)))

low_by : (v : Work) (r : Rule) (t p : Cell) (q : Option Cell) → InBounds v.bounds p → Leads v.bounds r t p q → conclusion_by r p q (value_in v p) (value_in v (second_or p q)) ≤ columns_of t
low_by v r t p q h leads = conclusion_within v.bounds r t p q (value_in v p) (value_in v (second_or p q)) leads (value_within v p h) (within q leads)
  where
    within : (q : Option Cell) → Leads v.bounds r t p q → value_in v (second_or p q) ≤ columns_of (second_or p q)
    within None l = value_within v p h
    within (Some c) l = value_within v c l.0

pub conclusion_fits : (v : Work) (i : Instance) (k : ℕ) → IsInstance v.bounds v.rules i → k ≡ conclusion_of i (value_in v i.first) (value_in v (second_of i)) → k ≤ columns_of i.target
conclusion_fits v i k h e = rw e (low_by v i.rule i.target i.first i.second h.first h.leads)

-- there are the nodes of the axioms
pub cells_few : (v : Work) → cells_of v.bounds ≤ length v.nodes.list
cells_few v = ∥∥₁_elim v.roomy le_prop (λ r. r.many)

-- ---- values and flags

pub set_high : (values : List ℕ) (n k most : ℕ) → n < length values → ((j : ℕ) → get_or values j 0 ≤ most) → k ≤ most → (j : ℕ) → get_or (set values n k) j 0 ≤ most
set_high values n k most h low high j = ⊎_elim
    (λ (e : j ≡ n). rw (e, get_or-set_same values n k 0 h) high)
    (λ (ne : j ≢ n). rw (get_or-set_other values n j k 0 ne) (low j))
    (cases_eq j n)

-- no cell waits before the first that did or does now
pub none_before : (flags : List Bool) (from n low : ℕ) → low ≤ from → low ≤ n → NoneBefore flags from → NoneBefore (set flags n true) low
none_before flags from n low h k old j l =
    let apart : j ≢ n = λ e. absurd (omega arith) in
    get_or-set_other flags n j true false apart ∙ old j (omega arith)
