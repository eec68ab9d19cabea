-- A tree that concludes a value over imports that hold, of whole systems, has a system.
use Rattle.std.proofs.Common.{ℕ, suc, ◌-◌, ◌==◌, cond, ltb, List, refl, arith}
use Rattle.mt_linear.specs.declared.order.Order.{Order}
use Rattle.mt_linear.specs.Field.{number_of}
use Rattle.mt_linear.proofs.FieldLaws.{number_pos, one_below}
use Rattle.mt_system.specs.Rows.{Matrices}
use Rattle.mt_system.specs.Digits.{unit}
use Rattle.mt_system.specs.Statements.{Statement}
use Rattle.mt_cells.specs.declared.bounds.Bounds.{Bounds}
use Rattle.mt_cells.specs.declared.cells.Cell.{Cell}
use Rattle.mt_cells.specs.declared.cells.Cell.TheVariants.{Ooa, Seq}
use Rattle.mt_cells.specs.declared.rules.RuleSet.{RuleSet}
use Rattle.mt_cells.specs.Cells.{InBounds}
use Rattle.mt_derive.specs.Trees.{Axiom, zero_rows, constant, identity, parity, niederreiter, Says, Tree, axiom_at, imported, one, two, cell_of, value_of, IsTree}
use Rattle.mt_derive.specs.Places.{IsAt}
use Rattle.mt_derive.specs.declared.events.Event.{Event}
use Rattle.mt_derive.specs.Events.{imports_of, entries_of}
use Rattle.mt_derive.specs.Imports.{AllHold}
use Rattle.mt_derive.specs.Systems.{IsWhole, IsAxiomSystem, IsSystemOf}
use Rattle.mt_derive.specs.Laws.{AllWhole, TreesHaveSystems}
use Rattle.mt_derive.proofs.EntryLemmas.{entries_length, import_there}
use Rattle.mt_derive.proofs.FormulaLemmas.{cond_in, unit_in, AreSizes, whole_from_digits}
use Rattle.mt_derive.proofs.ExpansionLemmas.{matrices_exist}
use Rattle.mt_derive.proofs.SoundLemmas.{holds_at, tree_whole, tree_within}
use Rattle.mt_derive.proofs.RuleLemmas.{ready, pair_ready, rule_exists, pair_exists}

-- ---- axioms

-- the sizes of a cell's system
sizes_of : (b : Bounds) (o : Order) (m s d : ℕ) → InBounds b (Ooa o m s d) → AreSizes m s d
sizes_of b o m s d i = (i.0, omega (arith, i.1, b.m_high), i.2, omega (arith, i.3, b.s_high), i.4, omega (arith, i.5, i.1, b.m_high))

-- there is the system of an axiom that says a value of the cell
axiom_exists : (b : Bounds) (x : Axiom) (c : Cell) (k : ℕ) → InBounds b c → Says x c k → (a : Matrices) × IsWhole a × IsAxiomSystem x c a
axiom_exists b zero_rows (Ooa o m s depth) k i says = whole_from_digits o m s depth (λ i j c. 0) (sizes_of b o m s depth i) (λ i j c. number_pos o)
axiom_exists b zero_rows (Seq o m s) k i says =
    whole_from_digits o m s m (λ i j c. 0) (sizes_of b o m s m (i.0, i.1, i.2, i.3, i.0, omega arith)) (λ i j c. number_pos o)
axiom_exists b constant (Ooa o m s depth) k i says =
    whole_from_digits o m s depth (λ i j c. cond (j == 0) (unit 0 c) 0) (sizes_of b o m s depth i)
    (λ i j c. cond_in (j == 0) (unit 0 c) 0 (number_of o) (unit_in o 0 c) (number_pos o))
axiom_exists b identity (Ooa o m s depth) k i says =
    whole_from_digits o m 1 m (λ i j c. unit j c)
    (sizes_of b o m 1 m (i.0, i.1, omega arith, omega (arith, i.2, i.3), i.0, omega arith)) (λ i j c. unit_in o j c)
axiom_exists b parity (Ooa o m s depth) k i says =
    whole_from_digits o m (suc m) 1 (λ i j c. cond (ltb i m) (unit i c) 1)
    (sizes_of b o m (suc m) 1 (i.0, i.1, omega arith, omega (arith, says.0, i.3), omega arith, i.0))
    (λ i j c. cond_in (ltb i m) (unit i c) 1 (number_of o) (unit_in o i c) (one_below o))
axiom_exists b niederreiter (Seq o m s) k i says =
    matrices_exist o m s says.1.polynomials (sizes_of b o m s m (i.0, i.1, i.2, i.3, i.0, omega arith)) says.1.list says.1.count
axiom_exists b niederreiter (Ooa o m s depth) k i says = absurd says
axiom_exists b x (Seq o m s) k i says = absurd says

-- ---- trees

tree_exists : (b : Bounds) (rules : RuleSet) (E : List Event) → AllHold (imports_of E) → AllWhole (imports_of E) → (t : Tree) → IsTree b rules (entries_of E) t
    → (a : Matrices) × IsSystemOf (imports_of E) t a
tree_exists b rules E all wholes (axiom_at x c k) tree =
    let made = axiom_exists b x c k tree.0 tree.1 in (made.0, (made.1, made.2))
tree_exists b rules E all wholes (imported n) tree =
    let place : (c : Statement) × IsAt (imports_of E) (n - 1) c = import_there E n tree.0 (omega (arith, tree.1, entries_length E)) in
    (place.0.system, (holds_at (λ c. IsWhole c.system) (imports_of E) (n - 1) place.0 wholes place.1, place.0, (tree.0, place.1), refl))
tree_exists b rules E all wholes (one r c t) tree =
    let p : (a : Matrices) × IsSystemOf (imports_of E) t a = tree_exists b rules E all wholes t tree.0 in
    let whole : IsWhole p.0 = tree_whole (imports_of E) t p.0 p.1 in
    let made = rule_exists r p.0 whole
    (ready b r (cell_of (entries_of E) t) (value_of (entries_of E) t) p.0 tree.1.first tree.1.leads.0 tree.2 whole (tree_within b rules E all t p.0 tree.0 p.1)) in
    (made.0, (made.1, p.0, p.1, made.2))
tree_exists b rules E all wholes (two r c t u) tree =
    let p : (a : Matrices) × IsSystemOf (imports_of E) t a = tree_exists b rules E all wholes t tree.0 in
    let q : (a : Matrices) × IsSystemOf (imports_of E) u a = tree_exists b rules E all wholes u tree.1 in
    let whole : IsWhole p.0 = tree_whole (imports_of E) t p.0 p.1 in
    let also : IsWhole q.0 = tree_whole (imports_of E) u q.0 q.1 in
    let made = pair_exists r p.0 q.0 whole also
    (pair_ready b r (cell_of (entries_of E) t) (cell_of (entries_of E) u) (value_of (entries_of E) t) (value_of (entries_of E) u) p.0 q.0
    tree.2.leads.1 whole also (tree_within b rules E all t p.0 tree.0 p.1) (tree_within b rules E all u q.0 tree.1 q.1)) in
    (made.0, (made.1, p.0, q.0, p.1, q.1, made.2))

-- trees have systems, whatever the bounds, the rules and the claims
pub trees_have_systems : (b : Bounds) (rules : RuleSet) (E : List Event) → TreesHaveSystems b rules E
trees_have_systems b rules E all wholes t c k concludes = tree_exists b rules E all wholes t concludes.0
