-- Internal: the rule that every step at the shared table keeps, and what each kind of step tells the seat that makes it.
-- Word i is 1 while the slot i is in a hand, and else 0. A slot has a copy of the value, whose list is what a viewer that sits there is shown.
use Rattle.std.specs.Prelude.{◌≡◌, ◌≢◌, ℕ, ◌+◌, ◌<◌, List, [], ◌∷◌, length, slice_index, Option, Some}
use mathlib.Core.Option.{some}
use mathlib.Core.List.{IsPrefix}
use lib.ListN.{get_elem?}
use Rattle.atomic_table.specs.Table.{State, Me, Step}
use Rattle.mt_publish.specs.Prefixes.{AllPrefixes}
use Rattle.mt_publish.specs.declared.role.Item.{Item}
use Rattle.mt_publish.specs.declared.role.Item.TheVariants.{Base}
use Rattle.mt_publish.specs.declared.role.Role.{Role}
use Rattle.mt_publish.specs.declared.role.Role.TheVariants.{Spent, Resting, Handing, Swapping, Seated, Reading, Noted}

-- the seat has one of the n slots in hand, the slot i
abbrev pub HasSlot : ℕ → List ℕ → (ℕ → ℕ) → ℕ → ℕ → Type 0
HasSlot n words owner seat i = (i < n) × (slice_index words i ≡ 1) × (owner i ≡ seat)

module _ {E : Type 0} (n : ℕ) (latest settled : List E) (shows : ℕ → List E) (words : List ℕ) (owner : ℕ → ℕ) (writer seat : ℕ) where
  -- what a seat's role says of the whole
  abbrev pub Knows : Role E → Type 0
  Knows Spent = Unit {0}
  Knows (Resting x) = (seat ≡ writer) × (latest ≡ x) × (settled ≡ x)
  Knows (Handing x d) = (seat ≡ writer) × (latest ≡ x) × ((i : ℕ) → i < d → shows i ≡ x)
  Knows (Swapping x d) = (seat ≡ writer) × (latest ≡ x) × ((i : ℕ) → i < d → shows i ≡ x) × HasSlot n words owner seat d
  Knows (Seated i x ls) = (i < n) × IsPrefix x (shows i) × AllPrefixes settled ls
  Knows (Reading i x) = (shows i ≡ x) × HasSlot n words owner seat i
  Knows (Noted x) = IsPrefix x settled

-- There are n slots. The latest list is the published one, and the settled list begins that of each slot's copy, `shows i`, which begins the latest.
-- A slot in no hand has its copy. What each seat's role says is true.
pub record Kept {E A : Type 0} (listed : A → List E) (s : State (Option A) (Role E)) : Type 0 where
  pub n : ℕ
  pub latest : List E
  pub settled : List E
  pub shows : ℕ → List E
  pub owner : ℕ → ℕ
  pub writer : ℕ
  pub wide : length s.words ≡ n
  pub deep : length s.homes ≡ n
  pub low : (i : ℕ) → i < n → IsPrefix settled (shows i)
  pub high : (i : ℕ) → i < n → IsPrefix (shows i) latest
  pub home : (i : ℕ) → i < n → slice_index s.words i ≡ 0 → (a : A) × (get_elem? s.homes i ≡ some (some (Some a))) × (listed a ≡ shows i)
  pub seats : (j : ℕ) (r : Role E) → get_elem? s.views j ≡ some r → Knows n latest settled shows s.words owner writer j r

abbrev SeatState : Type 0 → Type 0 → Type 0
SeatState E A = Me (Option A) (Role E)

abbrev StepAt : Type 0 → Type 0
StepAt A = Step (Option A)

module _ {E A : Type 0} where
  -- a new viewer
  abbrev pub sat : StepAt A → SeatState E A → ℕ → SeatState E A → Type 0
  sat turn before found after = after.0 ≡ Seated turn.word [] []

  -- a viewer takes its slot, where it is in no hand: the copy's list extends all that the viewer saw and learnt
  abbrev pub entered : (A → List E) → StepAt A → SeatState E A → ℕ → SeatState E A → Type 0
  entered listed turn before found after = (x : List E) (ls : List (List E)) → before.0 ≡ Seated turn.word x ls
      → (found ≡ 0 → (a : A) × (after.0 ≡ Reading turn.word (listed a)) × (after.1 ≡ (turn.word, Some a) ∷ before.1) × IsPrefix x (listed a) × AllPrefixes (listed a) ls) × (found ≢ 0 → after ≡ before)

  -- a viewer gives its slot back, and has seen the copy's list
  abbrev pub returned : StepAt A → SeatState E A → ℕ → SeatState E A → Type 0
  returned turn before found after = (after.1 ≡ []) × ((x : List E) → before.0 ≡ Reading turn.word x → after.0 ≡ Seated turn.word x [])

  -- the published list becomes that of the copy which the step names
  abbrev pub announced : (A → List E) → StepAt A → SeatState E A → ℕ → SeatState E A → Type 0
  announced listed turn before found after = (after.1 ≡ before.1) × ((x : List E) (a : A) → before.0 ≡ Resting x → turn.said ≡ some (Some a) → after.0 ≡ Handing (listed a) 0)

  -- the publisher takes the next slot, where it is in no hand
  abbrev pub reached : StepAt A → SeatState E A → ℕ → SeatState E A → Type 0
  reached turn before found after = (x : List E) → before.0 ≡ Handing x turn.word → (found ≡ 0 → (a : A) × (after.0 ≡ Swapping x turn.word) × (after.1 ≡ (turn.word, Some a) ∷ before.1)) × (found ≢ 0 → after ≡ before)

  -- the publisher gives the slot back, with a copy of the published list
  abbrev pub swapped : StepAt A → SeatState E A → ℕ → SeatState E A → Type 0
  swapped turn before found after = (after.1 ≡ []) × ((x : List E) → before.0 ≡ Swapping x turn.word → after.0 ≡ Handing x (turn.word + 1))

  -- every slot's copy has the published list
  abbrev pub rested : StepAt A → SeatState E A → ℕ → SeatState E A → Type 0
  rested turn before found after = (after.1 ≡ before.1) × ((x : List E) → before.0 ≡ Handing x turn.slots → after.0 ≡ Resting x)

module _ {E : Type 0} where
  -- a front of the published list
  abbrev pub front_of : Role E → Role E
  front_of (Resting x) = Noted x
  front_of _ = Spent

  -- a viewer that has learnt a front
  abbrev pub told : Role E → Role E → Role E
  told (Seated i x ls) (Noted l) = Seated i x (l ∷ ls)
  told r _ = r

  -- a viewer that has seen a front's list
  abbrev pub begun : Role E → Role E → Role E
  begun (Seated i x ls) (Noted l) = Seated i l ls
  begun r _ = r

  -- the list that a seat knows
  abbrev pub list_of : Role E → List E
  list_of (Resting x) = x
  list_of (Handing x d) = x
  list_of (Swapping x d) = x
  list_of (Seated i x ls) = x
  list_of (Reading i x) = x
  list_of (Noted x) = x
  list_of Spent = []

  -- the lists that a viewer learnt since its last view
  abbrev pub learnt_of : Role E → List (List E)
  learnt_of (Seated i x ls) = ls
  learnt_of _ = []

module _ {B E : Type 0} where
  -- a front of the base alone
  abbrev pub base_of : Role (Item B E) → Role (Item B E)
  base_of (Resting (Base b ∷ r)) = Noted (Base b ∷ [])
  base_of _ = Spent
