-- The claim of a system that a table's node makes.
use Rattle.std.proofs.Common.{◌≡◌, ℕ, ◌≤◌, [], codes, refl, sym, ◌∙◌, subst, arith}
use Rattle.std.proofs.lemmas.List.Elements.{All-nil, All-cons}
use Rattle.std.specs.Prelude.{Contains}
use Rattle.mt_linear.specs.declared.order.Order.{Order}
use Rattle.mt_system.specs.declared.claims.Claim.{Claim}
use Rattle.mt_system.specs.Rows.{Matrices}
use Rattle.mt_system.specs.Statements.{statement_of}
use Rattle.mt_system.specs.Claims.{name_characters, IsName, IsClaim}
use Rattle.mt_cells.specs.declared.bounds.Bounds.{Bounds}
use Rattle.mt_cells.specs.declared.cells.Cell.{Cell}
use Rattle.mt_cells.specs.declared.asks.Kind.{Kind}
use Rattle.mt_cells.specs.declared.asks.Kind.TheVariants.{Net, Oa, Ooa, Seq}
use Rattle.mt_cells.specs.declared.asks.Ask.{Ask}
use Rattle.mt_cells.specs.Asks.{cell_by, IsAsked}
use Rattle.mt_cells.specs.Cells.{InBounds, columns_of}
use Rattle.mt_derive.specs.Trees.{Tree, Concludes}
use Rattle.mt_derive.specs.declared.nodes.Node.{Node}
use Rattle.mt_derive.specs.Built.{IsBuilt}
use Rattle.mt_derive.specs.Events.{entries_of, imports_of}
use Rattle.mt_derive.specs.Systems.{IsSystemOf, Has}
use Rattle.mt_derive.proofs.ConcludedLemmas.{tree_same}
use Rattle.mt_derive.proofs.PlaceLemmas.{place_same}
use Rattle.mt_table.specs.Tables.{Contents, IsServed}
use Rattle.mt_answer.specs.Facts.{form_of, IsClaimed}

abbrev P : ℕ → Type 0
P b = Contains name_characters b

pub mint_is_name : IsName (codes "mint")
mint_is_name = record {
  some = omega arith;
  few = omega arith;
  characters = All-cons P _ (codes "int") (12, omega arith, refl) (All-cons P _ (codes "nt") (8, omega arith, refl) (All-cons P _ (codes "t") (13, omega arith, refl) (All-cons P _ [] (19, omega arith, refl) (All-nil P))));
}

claim_by : (b : Bounds) (kind : Kind) (o : Order) (a : Ask) (system : Matrices) (k : ℕ) → InBounds b (cell_by kind o a) → Has (cell_by kind o a) system k
    → k ≤ columns_of (cell_by kind o a) → IsClaim (form_of kind) k system
claim_by b Net o a system k inside has low = record {
  strength = omega (arith, low, has.sized.1);
  depth = omega (arith, has.sized.1, has.sized.3);
  net = λ e. has.sized.3 ∙ sym has.sized.1;
  sequence = λ e. absurd (cc e);
}
claim_by b Oa o a system k inside has low = record {
  strength = omega (arith, low, has.sized.1);
  depth = omega (arith, inside, has.sized.1, has.sized.3);
  net = λ e. absurd (cc e);
  sequence = λ e. absurd (cc e);
}
claim_by b Ooa o a system k inside has low = record {
  strength = omega (arith, low, has.sized.1);
  depth = omega (arith, inside, has.sized.1, has.sized.3);
  net = λ e. absurd (cc e);
  sequence = λ e. absurd (cc e);
}
claim_by b Seq o a system k inside has low = record {
  strength = omega (arith, low, has.sized.1);
  depth = omega (arith, has.sized.1, has.sized.3);
  net = λ e. absurd (cc e);
  sequence = λ e. has.sized.3 ∙ sym has.sized.1;
}

-- a system with a value of the cell that is asked for makes a claim of the kind's form
pub claim_fits : (b : Bounds) (a : Ask) (c : Cell) (system : Matrices) (k : ℕ) → IsAsked b a c → Has c system k → k ≤ columns_of c → IsClaim (form_of a.kind) k system
claim_fits b a c system k asked has low =
    claim_by b a.kind asked.order a system k (subst (λ (x : Cell). InBounds b x) asked.cell_is asked.inside)
    (subst (λ (x : Cell). Has x system k) asked.cell_is has) (subst (λ (x : Cell). k ≤ columns_of x) asked.cell_is low)

-- what is built of the node that a table names is what its tree makes, and has the cell's greatest value
pub built_served : (t : Contents) (c : Cell) (n : ℕ) (a : Matrices) → (s : IsServed t c n) → IsBuilt t.nodes.list (imports_of t.events) n a
    → IsSystemOf (imports_of t.events) s.concluded.tree a × Has c a s.node.k
built_served t c n a s built = (
  subst (λ (x : Tree). IsSystemOf (imports_of t.events) x a) (tree_same t.nodes.list n built.tree s.concluded.tree built.unfolds s.concluded.unfolds) built.made,
  subst (λ (x : Cell). Has x a s.node.k) s.cell
      (subst (λ (x : Node). Has x.cell a x.k) (place_same t.nodes.list n built.node s.node built.place s.place) built.has),
)

-- a claim of what is built of that node
pub claimed : (t : Contents) (kind : Kind) (c : Cell) (n : ℕ) (system : Matrices) (claim : Claim) → (s : IsServed t c n) → IsBuilt t.nodes.list (imports_of t.events) n system
    → claim.k ≡ s.node.k → claim.system ≡ system
    → statement_of claim ≡ record { form = form_of kind; name = codes "mint"; note = []; k = claim.k; system = claim.system } → IsClaimed t.bounds t.rules t.events kind c claim
claimed t kind c n system claim s built k is said = record {
  value = record {
    tree = s.concluded.tree;
    reached = subst (λ z. Concludes t.bounds t.rules (entries_of t.events) s.concluded.tree c z) (sym k)
        (subst (λ (x : Cell). Concludes t.bounds t.rules (entries_of t.events) s.concluded.tree x s.node.k) s.cell s.concluded.concludes);
    greatest = λ u j h. rw k (s.value.greatest u j h);
  };
  made = subst (λ (a : Matrices). IsSystemOf (imports_of t.events) s.concluded.tree a) (sym is) (built_served t c n system s built).0;
  has = subst (λ z. Has c claim.system z) (sym k) (subst (λ (a : Matrices). Has c a s.node.k) (sym is) (built_served t c n system s built).1);
  said = said;
}
