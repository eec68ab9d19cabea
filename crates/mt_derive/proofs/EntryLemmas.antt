-- The entries of lists of events, and trees over lists that keep each other's live entries.
use Rattle.std.proofs.Common.{◌≡◌, ◌≢◌, ℕ, zero, suc, ◌+◌, ◌-◌, ◌≤◌, true, false, IsTrue, List, [], ◌∷◌, ◌++◌, length, length-append, inl, inr, get_or, refl, sym, ap, ap₂, ◌∙◌, subst, arith}
use Rattle.std.proofs.lemmas.Bool.{cases_eq}
use Rattle.mt_system.specs.Statements.{Statement}
use Rattle.mt_cells.specs.declared.bounds.Bounds.{Bounds}
use Rattle.mt_cells.specs.declared.cells.Cell.{Cell}
use Rattle.mt_cells.specs.declared.rules.RuleSet.{RuleSet}
use Rattle.mt_cells.specs.Rules.{conclusion}
use Rattle.mt_derive.specs.declared.events.Event.{Event}
use Rattle.mt_derive.specs.declared.events.Event.TheVariants.{Import, Withdraw}
use Rattle.mt_derive.specs.Events.{imports_of, entry_of, entries_from, entries_of}
use Rattle.mt_derive.specs.Places.{IsAt}
use Rattle.mt_derive.specs.Trees.{Entry, no_entry, entry_at, Tree, axiom_at, imported, one, two, cell_of, value_of, IsTree, Concludes}
use Rattle.mt_derive.proofs.PlaceLemmas.{place_some, place_last}
use Rattle.mt_derive.proofs.EventLemmas.{imports_append, imports_withdraw, live_import, live_withdraw_other, live_withdrawn}

-- ---- entries

from_length : (E : List Event) (m : ℕ) (L : List Statement) → length (entries_from E m L) ≡ length L
from_length E m [] = refl
from_length E m (c ∷ L) = ap suc (from_length E (suc m) L)

pub entries_length : (E : List Event) → length (entries_of E) ≡ length (imports_of E)
entries_length E = from_length E 1 (imports_of E)

from_is : (E : List Event) (m : ℕ) (L : List Statement) (i : ℕ) (c : Statement) → IsAt L i c → get_or (entries_from E m L) i no_entry ≡ entry_of E (m + i) c
from_is E m [] i c at = absurd at
from_is E m (d ∷ L) zero c at =
    let e : m + 0 ≡ m = omega arith in
    rw e (ap (entry_of E m) at)
from_is E m (d ∷ L) (suc i) c at =
    let e : m + suc i ≡ suc m + i = omega arith in
    rw e (from_is E (suc m) L i c at)

-- the entry of an import says what its claim says
pub entry_is : (E : List Event) (n : ℕ) (c : Statement) → 1 ≤ n → IsAt (imports_of E) (n - 1) c → entry_at (entries_of E) n ≡ entry_of E n c
entry_is E n c low at =
    let e : 1 + (n - 1) ≡ n = omega (arith, low) in
    from_is E 1 (imports_of E) (n - 1) c at ∙ ap (λ m. entry_of E m c) e

-- and is there
pub import_there : (E : List Event) (n : ℕ) → 1 ≤ n → n ≤ length (imports_of E) → (c : Statement) × IsAt (imports_of E) (n - 1) c
import_there E n low high = place_some (imports_of E) (n - 1) (omega (arith, low, high))

-- ---- one event more

place_before : {A : Type 0} (xs ys : List A) (i : ℕ) (x : A) → IsAt xs i x → IsAt (xs ++ ys) i x
place_before [] ys i x at = absurd at
place_before (z ∷ xs) ys zero x at = at
place_before (z ∷ xs) ys (suc i) x at = place_before xs ys i x at

-- one import more leaves the entries of the others
pub entry_import_old : (E : List Event) (c : Statement) (n : ℕ) → 1 ≤ n → n ≤ length (imports_of E)
    → entry_at (entries_of (E ++ Import c ∷ [])) n ≡ entry_at (entries_of E) n
entry_import_old E c n low high =
    let old : (d : Statement) × IsAt (imports_of E) (n - 1) d = import_there E n low high in
    let new : IsAt (imports_of (E ++ Import c ∷ [])) (n - 1) old.0 =
    rw (imports_append E (Import c ∷ [])) (place_before (imports_of E) (c ∷ []) (n - 1) old.0 old.1) in
    entry_is (E ++ Import c ∷ []) n old.0 low new
    ∙ ap (λ live. record { cell = (entry_of E n old.0).cell; k = old.0.k; live = live }) (live_import E c n)
    ∙ sym (entry_is E n old.0 low old.1)

-- and has its own
pub entry_import_new : (E : List Event) (c : Statement) → entry_at (entries_of (E ++ Import c ∷ [])) (length (imports_of E) + 1) ≡ entry_of E (length (imports_of E) + 1) c
entry_import_new E c =
    let number : length (imports_of E) + 1 - 1 ≡ length (imports_of E) = omega arith in
    let at : IsAt (imports_of (E ++ Import c ∷ [])) (length (imports_of E) + 1 - 1) c =
    rw (imports_append E (Import c ∷ []), number) (place_last (imports_of E) c) in
    entry_is (E ++ Import c ∷ []) (length (imports_of E) + 1) c (omega arith) at
    ∙ ap (λ live. record { cell = (entry_of E 1 c).cell; k = c.k; live = live }) (live_import E c (length (imports_of E) + 1))

-- a withdrawal leaves the entries of the others
pub entry_withdraw_other : (E : List Event) (i n : ℕ) → 1 ≤ n → n ≤ length (imports_of E) → n ≢ i
    → entry_at (entries_of (E ++ Withdraw i ∷ [])) n ≡ entry_at (entries_of E) n
entry_withdraw_other E i n low high apart =
    let old : (d : Statement) × IsAt (imports_of E) (n - 1) d = import_there E n low high in
    entry_is (E ++ Withdraw i ∷ []) n old.0 low (rw (imports_withdraw E i) old.1)
    ∙ ap (λ live. record { cell = (entry_of E n old.0).cell; k = old.0.k; live = live }) (live_withdraw_other E i n apart)
    ∙ sym (entry_is E n old.0 low old.1)

-- and of the withdrawn import's all but that it is live
pub entry_withdrawn : (E : List Event) (n : ℕ) → 1 ≤ n → n ≤ length (imports_of E)
    → entry_at (entries_of (E ++ Withdraw n ∷ [])) n ≡ record { cell = (entry_at (entries_of E) n).cell; k = (entry_at (entries_of E) n).k; live = false }
entry_withdrawn E n low high =
    let old : (d : Statement) × IsAt (imports_of E) (n - 1) d = import_there E n low high in
    let is : entry_at (entries_of E) n ≡ entry_of E n old.0 = entry_is E n old.0 low old.1 in
    entry_is (E ++ Withdraw n ∷ []) n old.0 low (rw (imports_withdraw E n) old.1)
    ∙ ap (λ live. record { cell = (entry_of E n old.0).cell; k = old.0.k; live = live }) (live_withdrawn E n)
    ∙ ap (λ (e : Entry). record { cell = e.cell; k = e.k; live = false }) (sym is)

-- ---- trees

-- each live entry of L stands in M, too
abbrev pub Kept : List Entry → List Entry → Type 0
Kept L M = (n : ℕ) → 1 ≤ n → n ≤ length L → IsTrue (entry_at L n).live → (n ≤ length M) × (entry_at M n ≡ entry_at L n)

-- a tree says over M what it says over L
pub tree_kept : (b : Bounds) (rules : RuleSet) (L M : List Entry) → Kept L M → (t : Tree) → IsTree b rules L t
    → (cell_of M t ≡ cell_of L t) × (value_of M t ≡ value_of L t) × IsTree b rules M t
tree_kept b rules L M kept (axiom_at x c k) h = (refl, refl, h)
tree_kept b rules L M kept (imported n) h =
    let same : (n ≤ length M) × (entry_at M n ≡ entry_at L n) = kept n h.0 h.1 h.2 in
    (ap (λ (e : Entry). e.cell) same.1, ap (λ (e : Entry). e.k) same.1, (h.0, same.0, ap (λ (e : Entry). e.live) same.1 ∙ h.2))
tree_kept b rules L M kept (one r c t) h =
    let same = tree_kept b rules L M kept t h.0 in
    (refl, ap₂ (conclusion r) same.0 same.1, (same.2, rw same.0 h.1, rw same.1 h.2))
tree_kept b rules L M kept (two r c t u) h =
    let first = tree_kept b rules L M kept t h.0 in
    let second = tree_kept b rules L M kept u h.1 in
    (refl, cc (first.0, first.1, second.0, second.1), (first.2, second.2, rw (first.0, second.0) h.2))

-- and concludes it
pub concludes_kept : (b : Bounds) (rules : RuleSet) (L M : List Entry) (t : Tree) (c : Cell) (k : ℕ) → Kept L M → Concludes b rules L t c k → Concludes b rules M t c k
concludes_kept b rules L M t c k kept h =
    let same : (cell_of M t ≡ cell_of L t) × (value_of M t ≡ value_of L t) × IsTree b rules M t = tree_kept b rules L M kept t h.0 in
    (same.2, same.0 ∙ h.1, same.1 ∙ h.2)

-- one import more keeps all entries
pub kept_import : (E : List Event) (c : Statement) → Kept (entries_of E) (entries_of (E ++ Import c ∷ []))
kept_import E c n low high live =
    let within : n ≤ length (imports_of E) = omega (arith, high, entries_length E) in (
      omega (arith, within, entries_length (E ++ Import c ∷ []), ap length (imports_append E (Import c ∷ [])), length_more E c),
      entry_import_old E c n low within,
    )
  where
    length_more : (F : List Event) (d : Statement) → length (imports_of F) ≤ length (imports_of F ++ d ∷ [])
    length_more F d = simp length-append (omega arith)

-- the entries that are live after a withdrawal were so before it
pub kept_withdraw : (E : List Event) (i : ℕ) → Kept (entries_of (E ++ Withdraw i ∷ [])) (entries_of E)
kept_withdraw E i n low high live =
    let within : n ≤ length (imports_of E) = omega (arith, high, entries_length (E ++ Withdraw i ∷ []), ap length (imports_withdraw E i)) in (
      omega (arith, within, entries_length E),
      elim (cases_eq n i) [
        | inl e ↦
            let dead : (entry_at (entries_of (E ++ Withdraw n ∷ [])) n).live ≡ false = ap (λ (x : Entry). x.live) (entry_withdrawn E n low within) in
            absurd (let is : (entry_at (entries_of (E ++ Withdraw n ∷ [])) n).live ≡ true = subst (λ j. (entry_at (entries_of (E ++ Withdraw j ∷ [])) n).live ≡ true) (sym e) live in cc (dead, is))
        | inr apart ↦ sym (entry_withdraw_other E i n low within apart)
      ],
    )
