-- Internal: what a task did when it ends, or when it is given up.
use Rattle.std.specs.Prelude.{◌≡◌, ℕ, ◌⊎◌, List, true, Option}
use Rattle.mt_cells.specs.declared.bounds.Bounds.{Bounds}
use Rattle.mt_cells.specs.declared.rules.Rule.{Rule}
use Rattle.mt_cells.specs.declared.rules.RuleSet.{RuleSet}
use Rattle.mt_cells.specs.Instances.{has_rule}
use Rattle.mt_derive.specs.declared.events.Event.{Event}
use Rattle.mt_service.specs.declared.opening.OpenRefused.{OpenRefused}
use Rattle.mt_service.specs.Telling.{AreTold}
use Rattle.mt_service.specs.Texts.{open_text}
use Rattle.mint.specs.declared.causes.Cause.{Cause}
use Rattle.mint.specs.declared.causes.Cause.TheVariants as cause
use Rattle.mint.specs.declared.input.InputRefused.{InputRefused}
use Rattle.mint.specs.declared.input.InputRefused.TheVariants as input
use Rattle.mint.specs.declared.status.Status.{Status}
use Rattle.mint.specs.declared.status.Status.TheVariants.{Memory, ReadFault, KeeperFault, BadStore}
use Rattle.mint.specs.declared.words.Task.{Task}
use Rattle.mint.specs.Run.{World, Does, DoesPart}
use Rattle.mint.specs.Store.{AreLeft, Grows, IsBadStore}

abbrev pub status_given_up : Cause → Status
status_given_up cause.Memory = Memory
status_given_up cause.ReadFault = ReadFault
status_given_up cause.KeeperFault = KeeperFault

abbrev pub cause_of : InputRefused → Cause
cause_of input.Memory = cause.Memory
cause_of input.Fault = cause.ReadFault

abbrev pub AllRules : RuleSet → Type 0
AllRules rules = (rule : Rule) → has_rule rules rule ≡ true

-- the status and the line for why the records are refused
abbrev pub IsBadAnswer : Bounds → Option (List (List ℕ)) → Option (List (List ℕ)) → Status → List ℕ → Type 0
IsBadAnswer b before after status output = (r : OpenRefused) × IsBadStore b before after r × (status ≡ BadStore) × (output ≡ open_text r)

module _ {F : Type 0} (told : F → Option (List ℕ)) (failures : F → ℕ) (b : Bounds) (rules : RuleSet) (task : Task) where
  -- it was done over some list, and the feeds are told how that grew
  abbrev pub IsDone : World → World → List F → List F → Status → List ℕ → Type 0
  IsDone before after old new status output = (E M : List Event) × Does b rules task before after E M status output × AreTold b rules told failures E M old new

  -- nothing was done, or a part, of which the feeds are told
  abbrev pub IsStopped : World → World → List F → List F → Status → Type 0
  IsStopped before after old new status =
      (AreLeft before.records after.records × (new ≡ old))
      ⊎ ((E M : List Event) × Grows b before.records after.records E M × DoesPart b rules task before after E M status × AreTold b rules told failures E M old new)
