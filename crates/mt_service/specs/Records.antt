-- Records, the list of events that they stand for, and what is put.
use Rattle.std.specs.Prelude.{◌≡◌, ℕ, ◌-◌, ◌≤◌, List, [], ◌∷◌, ◌++◌, length, map, get_or, Option, None, Some}
use Rattle.mt_io.specs.Told.{WhereTold}
use Rattle.mt_system.specs.Statements.{Statement}
use Rattle.mt_cells.specs.declared.bounds.Bounds.{Bounds}
use Rattle.mt_import.specs.Canonical.{canonical_text}
use Rattle.mt_import.specs.Withdrawals.{withdraw_text}
use Rattle.mt_derive.specs.declared.events.Event.{Event}
use Rattle.mt_derive.specs.declared.events.Event.TheVariants.{Import, Withdraw}
use Rattle.mt_derive.specs.declared.imports.TheConstants.{MOST_EVENTS}
use Rattle.mt_derive.specs.Events.{imports_of}
use Rattle.mt_service.specs.Steps.{IsAccepted}

-- each text is accepted as its event, over the list E and the events before it
abbrev pub AreAccepted : Bounds → List Event → List (List ℕ) → List Event → Type 0
AreAccepted b E [] [] = Unit {0}
AreAccepted b E (text ∷ texts) (e ∷ F) = IsAccepted b E text e × AreAccepted b (E ++ e ∷ []) texts F
AreAccepted b E texts F = ⊥

-- the records stand for the list of events
pub record StandFor (b : Bounds) (records : List (List ℕ)) (E : List Event) : Type 0 where
  pub few : length records ≤ MOST_EVENTS
  pub accepted : AreAccepted b [] records E

-- and those of a keeper do, where it tells them
abbrev pub IsKept : Bounds → Option (List (List ℕ)) → List Event → Type 0
IsKept b None E = Unit {0}
IsKept b (Some records) E = StandFor b records E

-- the name of import n
abbrev pub name_of : List Event → ℕ → List ℕ
name_of E n = get_or (map (λ (c : Statement). c.name) (imports_of E)) (n - 1) []

-- the canonical text of an event of the list E
abbrev pub event_text : List Event → Event → List ℕ
event_text E (Import c) = canonical_text c
event_text E (Withdraw n) = withdraw_text (name_of E n)

-- the list E grew to M, and the canonical texts of the new events were put behind the records, where they are told
abbrev pub ArePut : Option (List (List ℕ)) → Option (List (List ℕ)) → List Event → List Event → Type 0
ArePut before after E M = (F : List Event) × (M ≡ E ++ F) × WhereTold before after (λ old new. new ≡ old ++ map (event_text M) F)

-- records stand for one list at most
abbrev pub StandForOne : Bounds → List (List ℕ) → Type 0
StandForOne b records = (E F : List Event) → StandFor b records E → StandFor b records F → E ≡ F
