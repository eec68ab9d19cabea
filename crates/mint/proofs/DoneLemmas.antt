-- What each task did, as a case of all tasks.
use Rattle.std.proofs.Common.{◌≡◌, ℕ, List, [], Option, Some, refl, sym, subst}
use Rattle.mt_cells.specs.declared.bounds.Bounds.{Bounds}
use Rattle.mt_cells.specs.declared.asks.Question.{Question}
use Rattle.mt_cells.specs.declared.rules.RuleSet.{RuleSet}
use Rattle.mt_derive.specs.declared.events.Event.{Event}
use Rattle.mint.specs.declared.command.TheConstants.{MOST_READ}
use Rattle.mint.specs.declared.status.Status.{Status}
use Rattle.mint.specs.declared.status.Status.TheVariants.{Ok, Words}
use Rattle.mint.specs.declared.words.Task.{Task}
use Rattle.mint.specs.declared.words.Task.TheVariants as task
use Rattle.mint.specs.Doing.{AllRules, IsDone, IsStopped}
use Rattle.mint.specs.Input.{IsInput}
use Rattle.mint.specs.Run.{World, IsCheck, IsReply, sequence_sizes, IsSequenceFor, Does}
use Rattle.mint.specs.Texts.{usage_text}
use Rattle.mint.proofs.ChainLemmas.{told_none}

module _ {F : Type 0} (told : F → Option (List ℕ)) (failures : F → ℕ) (b : Bounds) (rules : RuleSet) (all : AllRules rules) (t : Task) where
  -- what a task does, by all rules
  abbrev IsWhole : World → World → List F → List F → Status → List ℕ → Type 0
  IsWhole before after old new s output = (r : RuleSet) × AllRules r × IsDone told failures b r t before after old new s output

  abbrev IsPart : World → World → List F → List F → Status → Type 0
  IsPart before after old new s = (r : RuleSet) × AllRules r × IsStopped told failures b r t before after old new s

  pub done_as : (kind : Task) (before after : World) (old new : List F) (s : Status) (output : List ℕ) → t ≡ kind
      → IsDone told failures b rules kind before after old new s output → IsWhole before after old new s output
  done_as kind before after old new s output is done =
      (rules, all, subst (λ (k : Task). IsDone told failures b rules k before after old new s output) (sym is) done)

  pub stopped_as : (kind : Task) (before after : World) (old new : List F) (s : Status) → t ≡ kind
      → IsStopped told failures b rules kind before after old new s → IsPart before after old new s
  stopped_as kind before after old new s is stopped =
      (rules, all, subst (λ (k : Task). IsStopped told failures b rules k before after old new s) (sym is) stopped)

  pub check_done : (before after : World) (fs : List F) (s : Status) (output : List ℕ) → t ≡ task.Check → after.records ≡ before.records
      → ((text : List ℕ) × IsInput MOST_READ before.input after.input text × IsCheck b text s output) → IsWhole before after fs fs s output
  check_done before after fs s output is same h =
      done_as task.Check before after fs fs s output is ([], [], (refl, same, h.0, h.1, h.2), told_none b rules told failures [] fs)

  pub sequence_done : (q m n : ℕ) (before after : World) (fs : List F) (s : Status) (output : List ℕ) → t ≡ task.Niederreiter q m n → after.records ≡ before.records
      → IsReply b (Some (sequence_sizes q m n)) s output ((s ≡ Ok) × IsSequenceFor q m n output) → IsWhole before after fs fs s output
  sequence_done q m n before after fs s output is same h =
      done_as (task.Niederreiter q m n) before after fs fs s output is ([], [], (refl, same, h), told_none b rules told failures [] fs)

  pub question_done : (question : Question) (before after : World) (fs : List F) (s : Status) (output : List ℕ) → t ≡ task.Ask question
      → ((E : List Event) × Does b rules (task.Ask question) before after E E s output) → IsWhole before after fs fs s output
  question_done question before after fs s output is h =
      done_as (task.Ask question) before after fs fs s output is (h.0, h.0, h.1, told_none b rules told failures h.0 fs)

  pub serve_done : (port n k : ℕ) (before after : World) (fs : List F) (s : Status) (output : List ℕ) → t ≡ task.Serve port n k → after.records ≡ before.records
      → s ≡ Words → output ≡ usage_text → IsWhole before after fs fs s output
  serve_done port n k before after fs s output is same words usage =
      done_as (task.Serve port n k) before after fs fs s output is ([], [], (refl, same, words, usage), told_none b rules told failures [] fs)
