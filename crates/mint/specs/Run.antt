-- What a command does, and how it ends.
use Rattle.std.specs.Prelude.{◌≡◌, ℕ, ◌-◌, ◌⊎◌, true, List, Option, None, Some}
use Rattle.mt_linear.specs.declared.order.Order.{Order}
use Rattle.mt_linear.specs.Field.{number_of}
use Rattle.mt_system.specs.Rows.{Matrices, SequenceStrength}
use Rattle.mt_system.specs.Statements.{Statement}
use Rattle.mt_strength.specs.Statements.{Holds}
use Rattle.mt_niederreiter.specs.Matrices.{IsMatricesOf, IsQuality}
use Rattle.mt_cells.specs.declared.bounds.Bounds.{Bounds}
use Rattle.mt_cells.specs.declared.rules.Rule.{Rule}
use Rattle.mt_cells.specs.declared.rules.RuleSet.{RuleSet}
use Rattle.mt_cells.specs.declared.asks.Part.{Part}
use Rattle.mt_cells.specs.declared.sizes.Sizes.{Sizes}
use Rattle.mt_cells.specs.Asks.{sizes_of, IsInside, IsOutside}
use Rattle.mt_cells.specs.Instances.{has_rule}
use Rattle.mt_derive.specs.declared.events.Event.{Event}
use Rattle.mt_answer.specs.Answers.{IsTextFor}
use Rattle.mt_answer.specs.Texts.{outside_line_text}
use Rattle.mt_service.specs.declared.outcomes.Outcome.{Outcome}
use Rattle.mt_service.specs.declared.opening.OpenRefused.{OpenRefused}
use Rattle.mt_service.specs.Gate.{Reads}
use Rattle.mt_service.specs.Checks.{IsRefused}
use Rattle.mt_service.specs.Steps.{IsStep}
use Rattle.mt_service.specs.Telling.{AreTold}
use Rattle.mt_service.specs.Texts.{outcome_text, open_text}
use Rattle.mint.specs.declared.command.TheConstants.{MOST_READ}
use Rattle.mint.specs.declared.status.Status.{Status}
use Rattle.mint.specs.declared.status.Status.TheVariants.{Ok, Memory, Words, Refused, ReadFault, KeeperFault, BadStore, Outside}
use Rattle.mint.specs.declared.words.Task.{Task}
use Rattle.mint.specs.declared.words.Task.TheVariants as task
use Rattle.mint.specs.declared.words.Command.{Command}
use Rattle.mint.specs.Generating.{IsGeneratedRun, IsPartlyGenerated}
use Rattle.mint.specs.Input.{IsInput}
use Rattle.mint.specs.Output.{Wrote, WrotePrefix}
use Rattle.mint.specs.Statuses.{status_of}
use Rattle.mint.specs.Store.{AreLeft, IsBadStore, Grows}
use Rattle.mint.specs.Texts.{usage_text, holds_text, sequence_text}
use Rattle.mint.specs.Words.{IsCommand}

-- what is outside the program, as far as it tells: the bytes left on the input, those written on the output, and the records of the store
pub record World : Type 0 where
  pub input : Option (List ℕ)
  pub output : Option (List ℕ)
  pub records : Option (List (List ℕ))

-- ---- what a task does: its status and its text, and what it takes of the world

-- the claim of the text holds, or the text is refused
abbrev pub IsCheck : Bounds → List ℕ → Status → List ℕ → Type 0
IsCheck b text status output =
    ((c : Statement) × Reads b text c × Holds c × (status ≡ Ok) × (output ≡ holds_text c.name))
    ⊎ ((o : Outcome) × IsRefused b text o × (status ≡ Refused) × (output ≡ outcome_text o))

-- the line for the first of these sizes that is outside the bounds, or, where none is, Q
abbrev pub IsReply : Bounds → Option Sizes → Status → List ℕ → Type 0 → Type 0
IsReply b looked_at status output Q =
    ((name : Part) × (number : ℕ) × IsOutside b looked_at name number × (status ≡ Outside) × (output ≡ outside_line_text name number))
    ⊎ (IsInside b looked_at × Q)

-- the line for why the records of the store are refused, or, where they stand for the list E, which grows to M, Q
abbrev pub IsOpened : Bounds → World → World → List Event → List Event → Status → List ℕ → Type 0 → Type 0
IsOpened b before after E M status output Q =
    ((r : OpenRefused) × IsBadStore b before.records after.records r × (M ≡ E) × (after.input ≡ before.input) × (status ≡ BadStore) × (output ≡ open_text r))
    ⊎ (Grows b before.records after.records E M × Q)

-- the import text of Niederreiter's matrices, which claims their quality parameter, or m where that is less; they have it
pub record IsSequenceText (o : Order) (m s : ℕ) (output : List ℕ) : Type 0 where
  pub system : Matrices
  pub made : IsMatricesOf o m s system
  pub t : ℕ
  pub quality : IsQuality o s t
  pub strength : SequenceStrength system (m - t)
  pub output_is : output ≡ sequence_text (m - t) system

-- the text for Niederreiter's matrices of these sizes
abbrev pub IsSequenceFor : ℕ → ℕ → ℕ → List ℕ → Type 0
IsSequenceFor q m s output = (o : Order) × (number_of o ≡ q) × IsSequenceText o m s output

abbrev pub sequence_sizes : ℕ → ℕ → ℕ → Sizes
sequence_sizes q m s = record { q = q; m = Some m; s = Some s; depth = None }

module _ (b : Bounds) (rules : RuleSet) where
  -- the text on the input comes to this outcome
  abbrev pub IsImported : World → World → List Event → List Event → Outcome → Type 0
  IsImported before after E M o = (text : List ℕ) × IsInput MOST_READ before.input after.input text × IsStep b rules E text o M

  -- what the task does over a list E of events, which grows to M; serving is none of this call's
  abbrev pub Does : Task → World → World → List Event → List Event → Status → List ℕ → Type 0
  Does task.Check before after E M status output =
      (M ≡ E) × (after.records ≡ before.records) × (text : List ℕ) × IsInput MOST_READ before.input after.input text × IsCheck b text status output
  Does (task.Niederreiter q m s) before after E M status output =
      (M ≡ E) × (after.records ≡ before.records) × IsReply b (Some (sequence_sizes q m s)) status output ((status ≡ Ok) × IsSequenceFor q m s output)
  Does (task.Ask question) before after E M status output =
      (M ≡ E) × AreLeft before.records after.records × IsReply b (sizes_of question) status output
      (IsOpened b before after E M status output ((status ≡ Ok) × IsTextFor b rules E question output))
  Does task.Import before after E M status output =
      IsOpened b before after E M status output ((o : Outcome) × IsImported before after E M o × (status_of o ≡ Some status) × (output ≡ outcome_text o))
  Does (task.Serve port workers connections) before after E M status output = (M ≡ E) × (after.records ≡ before.records) × (status ≡ Words) × (output ≡ usage_text)
  Does (task.Generate seed count) before after E M status output =
      IsOpened b before after E M status output ((status ≡ Ok) × IsGeneratedRun b rules seed count E M output)

  -- what it may have done before it was given up: nothing, or an import for whose line there was no memory, or the imports of some claims
  abbrev pub DoesPart : Task → World → World → List Event → List Event → Status → Type 0
  DoesPart task.Import before after E M status = (status ≡ Memory) × (o : Outcome) × IsImported before after E M o
  DoesPart (task.Generate seed count) before after E M status = ((status ≡ Memory) ⊎ (status ≡ KeeperFault)) × IsPartlyGenerated b rules seed count E M
  DoesPart task before after E M status = ⊥

-- ---- how a command ends

-- the task reads the input
abbrev pub ReadsInput : Task → Type 0
ReadsInput task.Check = Unit {0}
ReadsInput task.Import = Unit {0}
ReadsInput task = ⊥

-- the task opens the store
abbrev pub OpensStore : Task → Type 0
OpensStore task.Check = ⊥
OpensStore (task.Niederreiter q m s) = ⊥
OpensStore (task.Serve port workers connections) = ⊥
OpensStore task = Unit {0}

-- feeds of a kind F, the text that each was told, and how often it failed
module _ {F : Type 0} (told : F → Option (List ℕ)) (failures : F → ℕ) where
  -- the words are no command, and their text is the usage, or they are a command, which is done by all rules and of which the feeds are told
  abbrev pub IsRun : List (List ℕ) → World → World → List F → List F → Status → List ℕ → Type 0
  IsRun words before after old new status output =
      (((c : Command) → ¬ IsCommand words c) × (after.records ≡ before.records) × (new ≡ old) × (status ≡ Words) × (output ≡ usage_text))
      ⊎ ((c : Command) × IsCommand words c × (rules : RuleSet) × ((rule : Rule) → has_rule rules rule ≡ true) × (E M : List Event)
      × Does c.bounds rules c.task before after E M status output × AreTold c.bounds rules told failures E M old new)

  -- the text for this status was written whole
  abbrev pub IsFinished : List (List ℕ) → World → World → List F → List F → Status → Type 0
  IsFinished words before after old new status = (output : List ℕ) × IsRun words before after old new status output × Wrote before.output after.output output

  -- a prefix of the text was written
  abbrev pub IsCutOff : List (List ℕ) → World → World → List F → List F → Type 0
  IsCutOff words before after old new =
      (status : Status) × (output : List ℕ) × IsRun words before after old new status output × WrotePrefix before.output after.output output

  -- the words are a command, and where a read failed one that reads the input, and where the keeper failed one that opens the store; it has done nothing, or a part, of which the feeds are told
  abbrev pub IsGivenUp : List (List ℕ) → World → World → List F → List F → Status → Type 0
  IsGivenUp words before after old new status =
      (c : Command) × IsCommand words c × (status ≡ ReadFault → ReadsInput c.task) × (status ≡ KeeperFault → OpensStore c.task)
      × ((AreLeft before.records after.records × (new ≡ old))
      ⊎ ((rules : RuleSet) × ((rule : Rule) → has_rule rules rule ≡ true) × (E M : List Event)
      × Grows c.bounds before.records after.records E M × DoesPart c.bounds rules c.task before after E M status × AreTold c.bounds rules told failures E M old new))

-- the words are no command that reads the input
abbrev pub LeavesInput : List (List ℕ) → Type 0
LeavesInput words = (c : Command) → IsCommand words c → ¬ ReadsInput c.task

-- the words are no command that opens the store
abbrev pub LeavesStore : List (List ℕ) → Type 0
LeavesStore words = (c : Command) → IsCommand words c → ¬ OpensStore c.task
