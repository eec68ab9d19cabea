-- Internal: the parts of a step.
use Rattle.std.specs.Prelude.{◌≡◌, ℕ, ◌<◌, ◌≤◌, ◌⊎◌, List, length, Option, Result, Ok, Err}
use Rattle.mt_system.specs.Statements.{Statement}
use Rattle.mt_strength.specs.Statements.{Holds}
use Rattle.mt_cells.specs.declared.bounds.Bounds.{Bounds}
use Rattle.mt_cells.specs.declared.cells.Cell.{Cell}
use Rattle.mt_import.specs.declared.import_text.TheConstants.{MOST_BYTES}
use Rattle.mt_import.specs.Canonical.{canonical_text, IsTextOf}
use Rattle.mt_import.specs.Withdrawals.{IsWithdrawal, withdraw_text}
use Rattle.mt_derive.specs.declared.events.Event.{Event}
use Rattle.mt_derive.specs.declared.events.Event.TheVariants.{Import, Withdraw}
use Rattle.mt_derive.specs.declared.imports.TheConstants.{MOST_IMPORTS}
use Rattle.mt_derive.specs.Events.{imports_of, entries_of, IsLive}
use Rattle.mt_derive.specs.Trees.{IsValue}
use Rattle.mt_derive.specs.Values.{IsChanged}
use Rattle.mt_feed.specs.Lines.{change_line}
use Rattle.mt_feed.specs.Faring.{Fares}
use Rattle.mt_derive.specs.Imports.{IsImport, LacksName, IsNamed}
use Rattle.mt_cells.specs.declared.rules.RuleSet.{RuleSet}
use Rattle.mt_table.specs.declared.table.Applied.{Applied}
use Rattle.mt_table.specs.Tables.{HasTried}
use Rattle.mt_service.specs.declared.outcomes.Outcome.{Outcome}
use Rattle.mt_service.specs.declared.outcomes.Outcome.TheVariants as outcome
use Rattle.mt_service.specs.declared.service.NamedEvent.{NamedEvent}
use Rattle.mt_service.specs.Steps.{IsToWithdraw, IsDeclined, IsAppended}
use Rattle.mt_service.specs.Checks.{IsDependence}

-- the name is that of the event's import
abbrev pub HasName : List Event → List ℕ → Event → List ℕ → Type 0
HasName E text (Import c) name = name ≡ c.name
HasName E text (Withdraw n) name = IsToWithdraw E text n name

abbrev pub IsDeclinedOrMemory : Bounds → List Event → List ℕ → Outcome → Type 0
IsDeclinedOrMemory b E text outcome.Memory = Unit {0}
IsDeclinedOrMemory b E text o = IsDeclined b E text o

-- why a claim is not new whose name is that of import n
abbrev pub IsKnownAs : List Event → Statement → ℕ → Outcome → Type 0
IsKnownAs E c n (outcome.Already number name) = (number ≡ n) × (name ≡ c.name) × IsImport (imports_of E) n c × IsLive E n
IsKnownAs E c n (outcome.IsWithdrawn number name) = (number ≡ n) × (name ≡ c.name) × IsImport (imports_of E) n c × ¬ IsLive E n
IsKnownAs E c n (outcome.NameTaken number name) = (number ≡ n) × (name ≡ c.name) × ¬ IsImport (imports_of E) n c
IsKnownAs E c n o = ⊥

-- a claim is new and holds, or why not
abbrev pub Compares : List Event → Statement → Result NamedEvent Outcome → Type 0
Compares E c (Ok named) = (named.event ≡ Import c) × (named.name ≡ c.name) × LacksName (imports_of E) c.name × (length (imports_of E) < MOST_IMPORTS) × Holds c
Compares E c (Err outcome.Full) = LacksName (imports_of E) c.name × (MOST_IMPORTS ≤ length (imports_of E))
Compares E c (Err (outcome.Dependent form part choice coefficients)) =
    LacksName (imports_of E) c.name × (length (imports_of E) < MOST_IMPORTS) × IsDependence c (outcome.Dependent form part choice coefficients)
Compares E c (Err outcome.Memory) = Unit {0}
Compares E c (Err o) = (n : ℕ) × IsNamed (imports_of E) c.name n × IsKnownAs E c n o

-- the canonical text of an event with this name
abbrev pub named_text : Event → List ℕ → List ℕ
named_text (Import c) name = canonical_text c
named_text (Withdraw n) name = withdraw_text name

-- what comes of a text whose event is the last of the list M
abbrev pub IsDone : List Event → Event → List ℕ → Applied → Outcome → Type 0
IsDone M (Import c) name applied o = o ≡ outcome.Accepted (length (imports_of M)) name applied.raised applied.tried
IsDone M (Withdraw n) name applied o = o ≡ outcome.Withdrawn n name applied.raised applied.tried

-- the text is read as the event
abbrev pub IsReadAs : Event → List ℕ → List ℕ → Type 0
IsReadAs (Import c) name text = length text ≤ MOST_BYTES → IsTextOf text c
IsReadAs (Withdraw n) name text = IsWithdrawal text name

-- what comes of a text that is accepted as this event, and the list after it: the keeper refuses it, or the event is the last
abbrev pub Ends : Bounds → RuleSet → List Event → Event → List ℕ → Outcome → List Event → Type 0
Ends b rules E e name o M =
    ((M ≡ E) × ((o ≡ outcome.KeeperFault) ⊎ (o ≡ outcome.Memory)))
    ⊎ ((applied : Applied) × IsAppended b rules E M e applied.raised × HasTried b rules E e applied.tried × IsDone M e name applied o)

-- a feed is told the cell's value over the list M, where it is another than over E
abbrev pub TellsCell : {F : Type 0} → Bounds → RuleSet → (F → Option (List ℕ)) → (F → ℕ) → List Event → List Event → Cell → F → F → Type 0
TellsCell b rules told faults E M c old new =
    ((k : ℕ) × IsChanged b rules E M c × IsValue b rules (entries_of M) c k × Fares told faults (change_line (record { version = length M; cell = c; k = k })) old new)
    ⊎ ((¬ IsChanged b rules E M c) × (new ≡ old))
