-- What an event more does to a table.
use Rattle.std.proofs.Common.{◌≡◌, ℕ, zero, suc, ◌+◌, ◌-◌, ◌<◌, ◌≤◌, false, true, not, ◌||◌, List, [], ◌∷◌, ◌++◌, length, take, refl, sym, ap, ap₂, ◌∙◌, subst, arith, le_trans}
use Rattle.std.specs.List.{list_any}
use Rattle.std.proofs.lemmas.Bool.{ne_eqb}
use Rattle.std.proofs.lemmas.List.{take-append-le}
use Rattle.mt_system.specs.Statements.{Statement}
use Rattle.mt_cells.specs.declared.bounds.Bounds.{Bounds}
use Rattle.mt_cells.specs.Cells.{InBounds}
use Rattle.mt_derive.specs.declared.events.Event.{Event}
use Rattle.mt_derive.specs.declared.events.Event.TheVariants.{Import, Withdraw}
use Rattle.mt_derive.specs.Events.{imports_of, withdraws, is_live, IsLive, entries_of, Follows, AllFollow}
use Rattle.mt_derive.specs.Concluded.{IsConcluded}
use Rattle.mt_derive.specs.declared.nodes.Node.{Node}
use Rattle.mt_derive.specs.Imports.{cell_by, LacksName, IsNamed}
use Rattle.mt_derive.specs.Nodes.{import_node}
use Rattle.mt_derive.specs.Places.{IsAt}
use Rattle.mt_derive.specs.Trees.{Entry, entry_at}
use Rattle.mt_derive.proofs.ConcludedLemmas.{place_longer}
use Rattle.mt_derive.proofs.EntryLemmas.{entries_length, entry_is, import_there, entry_import_old, entry_import_new, Kept, concludes_kept, kept_import, kept_withdraw}
use Rattle.mt_derive.proofs.EventLemmas.{count_import}
use Rattle.mt_derive.proofs.PlaceLemmas.{place_below, place_index}
use Rattle.mt_table.specs.declared.work.Work.{Work}
use Rattle.mt_table.specs.Shapes.{sum_of}
use Rattle.mt_table.specs.Works.{value_in, AllShown, Accepts, Tries}
use Rattle.mt_table.specs.Fixed.{StandsOn, IsFixed, LiveFit}
use Rattle.mt_table.specs.Tables.{HasTried}
use Rattle.mt_table.proofs.NodeLemmas.{value_within}
use Rattle.mt_table.proofs.FixedLemmas.{stands_accepted, fixed}
use Rattle.mt_table.proofs.StepLemmas.{score_is}

-- ---- the events

-- the event that imports a claim
import_event : (E : List Event) (n : ℕ) (c : Statement) → IsAt (imports_of E) n c → (i : ℕ) × IsAt E i (Import c)
import_event [] n c at = absurd at
import_event (Import d ∷ E) zero c at = (0, ap (λ x. Import x) at)
import_event (Import d ∷ E) (suc n) c at = let x : (i : ℕ) × IsAt E i (Import c) = import_event E n c at in (suc x.0, x.1)
import_event (Withdraw j ∷ E) n c at = let x : (i : ℕ) × IsAt E i (Import c) = import_event E n c at in (suc x.0, x.1)

-- the cells of the imports are in the bounds
pub inside_bounds : (b : Bounds) (E : List Event) → AllFollow b E → (n : ℕ) → 1 ≤ n → n ≤ length (imports_of E) → InBounds b (entry_at (entries_of E) n).cell
inside_bounds b E all n low high =
    let x : (c : Statement) × IsAt (imports_of E) (n - 1) c = import_there E n low high in
    let y : (i : ℕ) × IsAt E i (Import x.0) = import_event E (n - 1) x.0 x.1 in
    let f : Follows b (take y.0 E) (Import x.0) = all y.0 (Import x.0) y.1 in
    rw (entry_is E n x.0 low x.1) f.1

follow_front : (b : Bounds) (E : List Event) (e : Event) → AllFollow b (E ++ e ∷ []) → AllFollow b E
follow_front b E e all n x at =
    let below : n < length E = place_below E n x at in
    subst (λ F. Follows b F x) (take-append-le n E (e ∷ []) (omega arith)) (all n x (place_longer E (e ∷ []) n x at))

any_none : (n : ℕ) (E : List Event) → ((i : ℕ) (e : Event) → IsAt E i e → withdraws n e ≡ false) → list_any (withdraws n) E ≡ false
any_none n [] h = refl
any_none n (e ∷ E) h = ap₂ (λ x y. x || y) (h 0 e refl) (any_none n E (λ i x at. h (suc i) x at))

imports_low : (E : List Event) (i : ℕ) → length (imports_of (take i E)) ≤ length (imports_of E)
imports_low [] zero = omega arith
imports_low [] (suc i) = omega arith
imports_low (e ∷ E) zero = omega arith
imports_low (Import c ∷ E) (suc i) = let x : length (imports_of (take i E)) ≤ length (imports_of E) = imports_low E i in omega (arith, x)
imports_low (Withdraw n ∷ E) (suc i) = imports_low E i

-- no event withdraws an import that comes next
fresh_live : (b : Bounds) (E : List Event) → AllFollow b E → is_live E (length (imports_of E) + 1) ≡ true
fresh_live b E all = ap not (any_none (length (imports_of E) + 1) E none)
  where
    none : (i : ℕ) (e : Event) → IsAt E i e → withdraws (length (imports_of E) + 1) e ≡ false
    none i (Import c) at = refl
    none i (Withdraw j) at =
        let f : IsLive (take i E) j = all i (Withdraw j) at in
        ne_eqb (length (imports_of E) + 1) j (λ same. absurd (omega (arith, same, f.1, imports_low E i)))

pub live_entry : (E : List Event) (n : ℕ) → 1 ≤ n → n ≤ length (imports_of E) → (entry_at (entries_of E) n).live ≡ is_live E n
live_entry E n low high =
    let x : (c : Statement) × IsAt (imports_of E) (n - 1) c = import_there E n low high in
    ap (λ (e : Entry). e.live) (entry_is E n x.0 low x.1)

-- ---- an import

shown_kept : (w : Work) (L M : List Entry) → Kept L M → AllShown w L → AllShown w M
shown_kept w L M kept all n node at =
    let x : IsConcluded w.bounds w.rules L w.nodes.list n node = all n node at in
    record { tree = x.tree; unfolds = x.unfolds; concludes = concludes_kept w.bounds w.rules L M x.tree node.cell node.k kept x.concludes }

-- the values stand on all imports but the one that comes
stands_longer : (w : Work) (E : List Event) (c : Statement) → StandsOn w (entries_of E) (length (entries_of E) + 1) → StandsOn w (entries_of (E ++ Import c ∷ [])) (length (imports_of E) + 1)
stands_longer w E c s = record {
  axioms = s.axioms;
  held = s.held;
  imports = λ j l h live.
      let high : j ≤ length (imports_of E) = omega arith in
      let same : entry_at (entries_of (E ++ Import c ∷ [])) j ≡ entry_at (entries_of E) j = entry_import_old E c j l high in
      rw same (s.imports j l (omega (arith, high, entries_length E)) (rw same at live));
  done = s.done;
  shown = shown_kept w (entries_of E) (entries_of (E ++ Import c ∷ [])) (kept_import E c) s.shown;
  idle = s.idle;
}

-- so with its node they are the greatest
pub fixed_import : (v w : Work) (E : List Event) (c : Statement) → AllFollow v.bounds (E ++ Import c ∷ []) → IsFixed v (entries_of E)
    → Accepts v w (import_node (entries_of (E ++ Import c ∷ [])) (length (imports_of E) + 1)) → IsFixed w (entries_of (E ++ Import c ∷ []))
fixed_import v w E c all f a =
    let n : ℕ = length (imports_of E) + 1 in
    let count : length (entries_of (E ++ Import c ∷ [])) ≡ n = entries_length (E ++ Import c ∷ []) ∙ count_import E c in
    let live : (entry_at (entries_of (E ++ Import c ∷ [])) n).live ≡ true =
    ap (λ (e : Entry). e.live) (entry_import_new E c) ∙ fresh_live v.bounds E (follow_front v.bounds E (Import c) all) in
    let s : StandsOn w (entries_of (E ++ Import c ∷ [])) (n + 1) =
    stands_accepted v w (entries_of (E ++ Import c ∷ [])) n (stands_longer v E c f.stands) (omega arith) (omega (arith, count)) live a in
    fixed w (entries_of (E ++ Import c ∷ [])) (subst (λ m. StandsOn w (entries_of (E ++ Import c ∷ [])) (m + 1)) (sym count) s)

pub import_tried : (v w : Work) (E : List Event) (c : Statement) (tried : ℕ) → w.bounds ≡ v.bounds → w.rules ≡ v.rules → IsFixed v (entries_of E) → IsFixed w (entries_of (E ++ Import c ∷ []))
    → Tries v w tried → HasTried v.bounds v.rules E (Import c) tried
import_tried v w E c tried eb er f g t = (
  sum_of v.values.items,
  t.rise,
  score_is v (entries_of E) f,
  rw t.score (rw (eb, er) at (score_is w (entries_of (E ++ Import c ∷ [])) g)),
  t.bound,
)

-- ---- a withdrawal

-- what the live imports say is within the bounds, since the values from before had it
pub live_fit : (v : Work) (E : List Event) (n : ℕ) → AllFollow v.bounds (E ++ Withdraw n ∷ []) → IsFixed v (entries_of E) → LiveFit v.bounds (E ++ Withdraw n ∷ [])
live_fit v E n all f j live =
    let is : (entry_at (entries_of (E ++ Withdraw n ∷ [])) j).live ≡ true = live_entry (E ++ Withdraw n ∷ []) j live.0 live.1 ∙ live.2 in
    let kept : (j ≤ length (entries_of E)) × (entry_at (entries_of E) j ≡ entry_at (entries_of (E ++ Withdraw n ∷ [])) j) =
    kept_withdraw E n j live.0 (omega (arith, live.1, entries_length (E ++ Withdraw n ∷ []))) is in
    let inside : InBounds v.bounds (entry_at (entries_of (E ++ Withdraw n ∷ [])) j).cell = inside_bounds v.bounds (E ++ Withdraw n ∷ []) all j live.0 live.1 in
    let low : (entry_at (entries_of E) j).k ≤ value_in v (entry_at (entries_of E) j).cell = f.stands.imports j live.0 (omega (arith, kept.0)) (ap (λ (e : Entry). e.live) kept.1 ∙ is) in
    (inside, le_trans (rw kept.1 at low) (value_within v (entry_at (entries_of (E ++ Withdraw n ∷ [])) j).cell inside))

-- ---- the node that is pushed

-- what is known of the import that was pushed as the last
pub record IsPushed (E : List Event) (d : Statement) (n k : ℕ) (node : Node) : Type 0 where
  pub number : n ≡ length (imports_of E) + 1
  pub cell : node.cell ≡ cell_by d.form d.system
  pub whole : record { made = node.made; cell = node.cell; k = k } ≡ import_node (entries_of (E ++ Import d ∷ [])) (length (imports_of E) + 1)

pub pushed : (E F : List Event) (d : Statement) (n k : ℕ) (node : Node) → F ≡ E ++ Import d ∷ [] → n ≡ length (imports_of F) → node ≡ import_node (entries_of F) n → k ≡ d.k → IsPushed E d n k node
pushed E F d n k node list count is value = record {
  number = number;
  cell = ap (λ (x : Node). x.cell) shown ∙ ap (λ (e : Entry). e.cell) (entry_import_new E d);
  whole = ap (λ j. record { made = node.made; cell = node.cell; k = j }) (value ∙ sym (ap (λ (x : Node). x.k) shown ∙ ap (λ (e : Entry). e.k) (entry_import_new E d))) ∙ shown;
}
  where
    number : n ≡ length (imports_of E) + 1
    number = count ∙ ap (λ G. length (imports_of G)) list ∙ count_import E d

    shown : node ≡ import_node (entries_of (E ++ Import d ∷ [])) (length (imports_of E) + 1)
    shown = is ∙ ap₂ (λ G j. import_node (entries_of G) j) list number

-- ---- names

-- a name that an import has is lacked by none
pub named_apart : (L : List Statement) (name : List ℕ) (n : ℕ) → IsNamed L name n → LacksName L name → ⊥
named_apart L name n x h = h (n - 1) x.claim (place_below L (n - 1) x.claim x.place.1) (ap (λ (c : Statement). c.name) (place_index L (n - 1) x.claim x.claim x.place.1) ∙ x.named)
