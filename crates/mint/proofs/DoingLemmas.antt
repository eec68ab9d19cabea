-- What a task did, from what its parts did.
use Rattle.std.proofs.Common.{◌≡◌, ◌≢◌, ℕ, List, [], Option, Err, ◌⊎◌, inl, inr, refl, ap}
use Rattle.mt_cells.specs.declared.bounds.Bounds.{Bounds}
use Rattle.mt_cells.specs.declared.rules.RuleSet.{RuleSet}
use Rattle.mt_derive.specs.declared.events.Event.{Event}
use Rattle.mt_service.specs.declared.outcomes.Outcome.{Outcome}
use Rattle.mt_service.specs.declared.opening.OpenRefused.{OpenRefused}
use Rattle.mt_service.specs.declared.opening.OpenRefused.TheVariants as refused
use Rattle.mt_service.specs.Opening.{IsOpening, AreRefused}
use Rattle.mt_service.specs.Records.{ArePut}
use Rattle.mt_service.specs.Steps.{IsStep}
use Rattle.mt_service.specs.Telling.{AreTold}
use Rattle.mint.specs.declared.causes.Cause.{Cause}
use Rattle.mint.specs.declared.causes.Cause.TheVariants as cause
use Rattle.mint.specs.declared.command.TheConstants.{MOST_READ}
use Rattle.mint.specs.declared.status.Status.{Status}
use Rattle.mint.specs.declared.words.Task.{Task}
use Rattle.mint.specs.declared.words.Task.TheVariants as task
use Rattle.mint.specs.Doing.{status_given_up, IsBadAnswer, IsStopped}
use Rattle.mint.specs.Generating.{IsPartlyGenerated}
use Rattle.mint.specs.Input.{IsInput}
use Rattle.mint.specs.Run.{World, IsOpened, DoesPart}
use Rattle.mint.specs.Store.{Grows}
use Rattle.mint.proofs.ChainLemmas.{Records, put_left, left_both, grows_on, told_none, told_same}

pub refused_for : (b : Bounds) (records : List (List ℕ)) (r : OpenRefused) → IsOpening b records (Err r) → r ≢ refused.KeeperFault → r ≢ refused.Memory → AreRefused b records r
refused_for b records refused.KeeperFault o k m = absurd (k refl)
refused_for b records refused.Memory o k m = absurd (m refl)
refused_for b records (refused.TooMany n) o k m = o
refused_for b records (refused.BadRecord n w) o k m = o

module _ {F : Type 0} (told : F → Option (List ℕ)) (failures : F → ℕ) (b : Bounds) (rules : RuleSet) where
  -- what comes of a task that does Q over the list of the opened store
  abbrev Opens : (List Event → List Event → Type 0) → World → World → List F → List F → Status → List ℕ → Type 0
  Opens Q before after old new s output = (E M : List Event) × IsOpened b before after E M s output (Q E M) × AreTold b rules told failures E M old new

  pub opened_bad : (Q : List Event → List Event → Type 0) (before after : World) (fs : List F) (s : Status) (text : List ℕ) → after.input ≡ before.input
      → IsBadAnswer b before.records after.records s text → Opens Q before after fs fs s text
  opened_bad Q before after fs s text unread bad = ([], [], inl (bad.0, bad.1, refl, unread, bad.2, bad.3), told_none b rules told failures [] fs)

  pub opened_done : (Q : List Event → List Event → Type 0) (before after : World) (y : Records) (E M : List Event) (old new : List F) (s : Status) (output : List ℕ)
      → Grows b before.records y E E → ArePut y after.records E M → AreTold b rules told failures E M old new → Q E M → Opens Q before after old new s output
  opened_done Q before after y E M old new s output grows put tell did = (E, M, inr (grows_on b before.records y after.records E M grows put, did), tell)

  pub opened_stopped : (t : Task) (before after : World) (y : Records) (E M : List Event) (old new : List F) (s : Status)
      → Grows b before.records y E E → ArePut y after.records E M → AreTold b rules told failures E M old new
      → ((M ≡ E) ⊎ DoesPart b rules t before after E M s) → IsStopped told failures b rules t before after old new s
  opened_stopped t before after y E M old new s grows put tell (inl m) = inl (
    left_both before.records y after.records (put_left before.records y E E grows.put refl) (put_left y after.records E M put m),
    told_same b rules told failures E M old new tell m,
  )
  opened_stopped t before after y E M old new s grows put tell (inr part) =
      inr (E, M, grows_on b before.records y after.records E M grows put, part, tell)

module _ (b : Bounds) (rules : RuleSet) (before after : World) (E M : List Event) where
  pub import_part : (e : Cause)
      → ((M ≡ E) ⊎ ((e ≡ cause.Memory) × (text : List ℕ) × IsInput MOST_READ before.input after.input text × (o : Outcome) × IsStep b rules E text o M))
      → (M ≡ E) ⊎ DoesPart b rules task.Import before after E M (status_given_up e)
  import_part e (inl m) = inl m
  import_part e (inr (is, text, read, o, step)) = inr (ap status_given_up is, o, (text, read, step))

  pub generate_part : (seed count : ℕ) (e : Cause) → e ≢ cause.ReadFault → ((M ≡ E) ⊎ IsPartlyGenerated b rules seed count E M)
      → (M ≡ E) ⊎ DoesPart b rules (task.Generate seed count) before after E M (status_given_up e)
  generate_part seed count e apart (inl m) = inl m
  generate_part seed count cause.Memory apart (inr part) = inr (inl refl, part)
  generate_part seed count cause.ReadFault apart (inr part) = absurd (apart refl)
  generate_part seed count cause.KeeperFault apart (inr part) = inr (inr refl, part)
