-- How a command ends, from what its task did.
use Rattle.std.proofs.Common.{◌≡◌, ℕ, List, Option, inl, inr, refl, sym, ap, subst, arith}
use Rattle.mt_cells.specs.declared.rules.RuleSet.{RuleSet}
use Rattle.mint.specs.declared.causes.Cause.{Cause}
use Rattle.mint.specs.declared.causes.Cause.TheVariants as cause
use Rattle.mint.specs.declared.status.Status.{Status}
use Rattle.mint.specs.declared.status.Status.TheVariants.{ReadFault, KeeperFault}
use Rattle.mint.specs.declared.words.Command.{Command}
use Rattle.mint.specs.Doing.{AllRules, status_given_up, IsDone, IsStopped}
use Rattle.mint.specs.Run.{World, Does, ReadsInput, OpensStore, IsRun, IsGivenUp}
use Rattle.mint.specs.Statuses.{number_of_status}
use Rattle.mint.specs.Words.{IsCommand}

pub read_cause : (e : Cause) → status_given_up e ≡ ReadFault → e ≡ cause.ReadFault
read_cause cause.Memory is = absurd (let n = ap number_of_status is in omega arith)
read_cause cause.ReadFault is = refl
read_cause cause.KeeperFault is = absurd (let n = ap number_of_status is in omega arith)

pub keeper_cause : (e : Cause) → status_given_up e ≡ KeeperFault → e ≡ cause.KeeperFault
keeper_cause cause.Memory is = absurd (let n = ap number_of_status is in omega arith)
keeper_cause cause.ReadFault is = absurd (let n = ap number_of_status is in omega arith)
keeper_cause cause.KeeperFault is = refl

module _ {F : Type 0} (told : F → Option (List ℕ)) (failures : F → ℕ) (words : List (List ℕ)) (c : Command) (is : IsCommand words c)
    (before after : World) (old new : List F) where
  pub run_done : (s t : Status) (text output : List ℕ) → ((rules : RuleSet) × AllRules rules × IsDone told failures c.bounds rules c.task before after old new s text)
      → t ≡ s → output ≡ text → IsRun told failures words before after old new t output
  run_done s t text output did e f =
      let done = did.2 in
      let here = subst (λ (x : List ℕ). Does c.bounds did.0 c.task before after done.0 done.1 s x) (sym f) done.2 in
      inr (c, is, did.0, did.1, done.0, done.1, subst (λ (x : Status). Does c.bounds did.0 c.task before after done.0 done.1 x output) (sym e) here, done.3)

  run_part : (s : Status) (rules : RuleSet) → AllRules rules → (s ≡ ReadFault → ReadsInput c.task) → (s ≡ KeeperFault → OpensStore c.task)
      → IsStopped told failures c.bounds rules c.task before after old new s → IsGivenUp told failures words before after old new s
  run_part s rules all reads opens (inl left) = (c, is, reads, opens, inl left)
  run_part s rules all reads opens (inr p) = (c, is, reads, opens, inr (rules, all, p.0, p.1, p.2, p.3, p.4))

  pub run_stopped : (e : Cause) (s : Status) → (e ≡ cause.ReadFault → ReadsInput c.task) → (e ≡ cause.KeeperFault → OpensStore c.task)
      → ((rules : RuleSet) × AllRules rules × IsStopped told failures c.bounds rules c.task before after old new (status_given_up e))
      → s ≡ status_given_up e → IsGivenUp told failures words before after old new s
  run_stopped e s reads opens did f =
      subst (λ (x : Status). IsGivenUp told failures words before after old new x) (sym f)
      (run_part (status_given_up e) did.0 did.1 (λ k. reads (read_cause e k)) (λ k. opens (keeper_cause e k)) did.2)
