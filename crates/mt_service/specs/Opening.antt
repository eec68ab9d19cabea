-- Why records are refused.
use Rattle.std.specs.Prelude.{◌≡◌, ℕ, ◌-◌, ◌<◌, ◌≤◌, List, [], length, take, get_or, Option, None, Some, Result, Ok, Err}
use Rattle.mt_cells.specs.declared.bounds.Bounds.{Bounds}
use Rattle.mt_derive.specs.declared.events.Event.{Event}
use Rattle.mt_derive.specs.declared.imports.TheConstants.{MOST_EVENTS}
use Rattle.mt_table.specs.Tables.{Contents}
use Rattle.mt_service.specs.declared.outcomes.Outcome.{Outcome}
use Rattle.mt_service.specs.declared.outcomes.Outcome.TheVariants as outcome
use Rattle.mt_service.specs.declared.opening.Why.{Why}
use Rattle.mt_service.specs.declared.opening.Why.TheVariants as why
use Rattle.mt_service.specs.declared.opening.OpenRefused.{OpenRefused}
use Rattle.mt_service.specs.declared.opening.OpenRefused.TheVariants as refused
use Rattle.mt_service.specs.Steps.{IsDeclined}
use Rattle.mt_service.specs.Records.{AreAccepted, StandFor}

-- the reason for which a record is bad whose text comes to this
abbrev pub why_of : Outcome → Option Why
why_of (outcome.Form refused) = Some why.Form
why_of (outcome.NoImport name) = Some why.Unknown
why_of (outcome.AlreadyWithdrawn n name) = Some why.Withdrawn
why_of (outcome.Range name number limit) = Some why.Range
why_of (outcome.TooManyChoices count) = Some why.Choices
why_of (outcome.Already n name) = Some why.Name
why_of (outcome.IsWithdrawn n name) = Some why.Name
why_of (outcome.NameTaken n name) = Some why.Name
why_of outcome.Full = Some why.Full
why_of (outcome.Dependent form part choice coefficients) = Some why.Dependent
why_of o = None

-- the record is bad over the list, for this reason
abbrev pub IsBad : Bounds → List Event → List ℕ → Why → Type 0
IsBad b E text w = (o : Outcome) × IsDeclined b E text o × (why_of o ≡ Some w)

-- the record of this number, counted from 1, is the first that is bad, for this reason
pub record IsFirstBad (b : Bounds) (records : List (List ℕ)) (n : ℕ) (w : Why) : Type 0 where
  pub few : length records ≤ MOST_EVENTS
  pub from : 1 ≤ n
  pub to : n ≤ length records
  pub before : List Event
  pub accepted : AreAccepted b [] (take (n - 1) records) before
  pub bad : IsBad b before (get_or records (n - 1) []) w

-- why the records stand for no list
abbrev pub AreRefused : Bounds → List (List ℕ) → OpenRefused → Type 0
AreRefused b records (refused.TooMany n) = (n ≡ length records) × (MOST_EVENTS < n)
AreRefused b records (refused.BadRecord n w) = IsFirstBad b records n w
AreRefused b records r = ⊥

-- the table that is opened over the records, or why they are refused; the keeper's fault has its own cause, and want of memory is free
abbrev pub IsOpening : Bounds → List (List ℕ) → Result Contents OpenRefused → Type 0
IsOpening b records (Ok t) = StandFor b records t.events
IsOpening b records (Err refused.KeeperFault) = Unit {0}
IsOpening b records (Err refused.Memory) = Unit {0}
IsOpening b records (Err r) = AreRefused b records r
