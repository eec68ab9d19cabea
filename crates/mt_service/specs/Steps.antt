-- One step of a list of events: what comes of a text, and the list after it.
use Rattle.std.specs.Prelude.{◌≡◌, ℕ, ◌<◌, ◌≤◌, List, [], ◌∷◌, ◌++◌, length}
use Rattle.mt_system.specs.Statements.{Statement}
use Rattle.mt_strength.specs.Statements.{Holds}
use Rattle.mt_cells.specs.declared.bounds.Bounds.{Bounds}
use Rattle.mt_cells.specs.declared.cells.Cell.{Cell}
use Rattle.mt_cells.specs.declared.rules.RuleSet.{RuleSet}
use Rattle.mt_import.specs.Events.{IsEventRefusal}
use Rattle.mt_import.specs.Withdrawals.{IsWithdrawal}
use Rattle.mt_derive.specs.declared.events.Event.{Event}
use Rattle.mt_derive.specs.declared.events.Event.TheVariants.{Import, Withdraw}
use Rattle.mt_derive.specs.declared.imports.TheConstants.{MOST_IMPORTS}
use Rattle.mt_derive.specs.Events.{imports_of, IsLive}
use Rattle.mt_derive.specs.Imports.{IsImport, LacksName, IsNamed}
use Rattle.mt_derive.specs.Values.{AreChanged}
use Rattle.mt_table.specs.Tables.{HasTried}
use Rattle.mt_service.specs.declared.outcomes.Outcome.{Outcome}
use Rattle.mt_service.specs.declared.outcomes.Outcome.TheVariants as outcome
use Rattle.mt_service.specs.Gate.{Reads, IsTooLarge}
use Rattle.mt_service.specs.Checks.{IsDependence}

-- the text makes this claim, no import has its name, and there is room for it
pub record IsNew (b : Bounds) (E : List Event) (text : List ℕ) (c : Statement) : Type 0 where
  pub reads : Reads b text c
  pub named : LacksName (imports_of E) c.name
  pub room : length (imports_of E) < MOST_IMPORTS

-- the text makes this claim, whose name is that of import n
pub record IsKnown (b : Bounds) (E : List Event) (text : List ℕ) (c : Statement) (n : ℕ) (name : List ℕ) : Type 0 where
  pub reads : Reads b text c
  pub name_is : name ≡ c.name
  pub named : IsNamed (imports_of E) name n

-- the text is to withdraw import n by its name
pub record IsToWithdraw (E : List Event) (text : List ℕ) (n : ℕ) (name : List ℕ) : Type 0 where
  pub withdrawal : IsWithdrawal text name
  pub named : IsNamed (imports_of E) name n

-- the text is accepted as this event: the import of a new claim that holds, or the withdrawal of a live import
abbrev pub IsAccepted : Bounds → List Event → List ℕ → Event → Type 0
IsAccepted b E text (Import c) = IsNew b E text c × Holds c
IsAccepted b E text (Withdraw n) = (name : List ℕ) × IsToWithdraw E text n name × IsLive E n

-- why the text changes nothing: the first of the reasons that stands
abbrev pub IsDeclined : Bounds → List Event → List ℕ → Outcome → Type 0
IsDeclined b E text (outcome.Form refused) = IsEventRefusal text refused
IsDeclined b E text (outcome.NoImport name) = IsWithdrawal text name × LacksName (imports_of E) name
IsDeclined b E text (outcome.AlreadyWithdrawn n name) = IsToWithdraw E text n name × ¬ IsLive E n
IsDeclined b E text (outcome.Already n name) = (c : Statement) × IsKnown b E text c n name × IsImport (imports_of E) n c × IsLive E n
IsDeclined b E text (outcome.IsWithdrawn n name) = (c : Statement) × IsKnown b E text c n name × IsImport (imports_of E) n c × ¬ IsLive E n
IsDeclined b E text (outcome.NameTaken n name) = (c : Statement) × IsKnown b E text c n name × ¬ IsImport (imports_of E) n c
IsDeclined b E text outcome.Full = (c : Statement) × Reads b text c × LacksName (imports_of E) c.name × (MOST_IMPORTS ≤ length (imports_of E))
IsDeclined b E text (outcome.Dependent form part choice coefficients) = (c : Statement) × IsNew b E text c × IsDependence c (outcome.Dependent form part choice coefficients)
IsDeclined b E text o = IsTooLarge b text o

-- the event is the last of the list now, and the values of so many cells changed
pub record IsAppended (b : Bounds) (rules : RuleSet) (E M : List Event) (e : Event) (changed : ℕ) : Type 0 where
  pub list : M ≡ E ++ e ∷ []
  pub cells : List Cell
  pub changes : AreChanged b rules E M cells
  pub count : changed ≡ length cells

-- what comes of the text over the list E, and the list M after it; the keeper's fault comes only to a text that would be accepted, and want of memory is free
abbrev pub IsStep : Bounds → RuleSet → List Event → List ℕ → Outcome → List Event → Type 0
IsStep b rules E text (outcome.Accepted n name raised tried) M =
    (c : Statement) × IsAccepted b E text (Import c) × IsAppended b rules E M (Import c) raised
    × (n ≡ length (imports_of M)) × (name ≡ c.name) × HasTried b rules E (Import c) tried
IsStep b rules E text (outcome.Withdrawn n name lowered tried) M =
    IsToWithdraw E text n name × IsLive E n × IsAppended b rules E M (Withdraw n) lowered × HasTried b rules E (Withdraw n) tried
IsStep b rules E text outcome.KeeperFault M = (M ≡ E) × (e : Event) × IsAccepted b E text e
IsStep b rules E text outcome.Memory M = M ≡ E
IsStep b rules E text o M = (M ≡ E) × IsDeclined b E text o
