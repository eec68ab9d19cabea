-- The list before an import, from what came of it and the list after it.
use Rattle.std.proofs.Common.{◌≡◌, ◌≢◌, ℕ, ◌-◌, List, [], ◌∷◌, ◌++◌, length, take, Option, Some, None, sym, ap, ◌∙◌, subst, arith}
use Rattle.std.specs.Prelude.{IfSome, IfNone, MatchOption}
use Rattle.std.proofs.lemmas.Grind.{common_steps}
use Rattle.mt_cells.specs.declared.bounds.Bounds.{Bounds}
use Rattle.mt_cells.specs.declared.rules.RuleSet.{RuleSet}
use Rattle.mt_derive.specs.declared.events.Event.{Event}
use Rattle.mt_derive.specs.declared.events.Event.TheVariants.{Import, Withdraw}
use Rattle.mt_publish.specs.States.{Publication, FrontState, IsFrontOf}
use Rattle.mt_table.specs.declared.published.Base.{Base}
use Rattle.mt_service.specs.declared.outcomes.Outcome.{Outcome}
use Rattle.mt_service.specs.declared.outcomes.Outcome.TheVariants as outcome
use Rattle.mt_service.specs.Steps.{IsStep}
use Rattle.mt_server.specs.Offices.{before, IsImported}

all_but_last : (E : List Event) (e : Event) → take (length (E ++ e ∷ []) - 1) (E ++ e ∷ []) ≡ E
all_but_last E e = grind (arith, common_steps)

but_last : (E M : List Event) (e : Event) → M ≡ E ++ e ∷ [] → take (length M - 1) M ≡ E
but_last E M e is = ap (λ L. take (length L - 1) L) is ∙ all_but_last E e

-- an event is the last one after the outcomes that say so, and nothing is appended else
before_step : (b : Bounds) (rules : RuleSet) (E : List Event) (text : List ℕ) (o : Outcome) (M : List Event) → IsStep b rules E text o M → before o M ≡ E
before_step b rules E text (outcome.Accepted n name raised tried) M s = but_last E M (Import s.0) s.2.list
before_step b rules E text (outcome.Withdrawn n name lowered tried) M s = but_last E M (Withdraw n) s.2.list
before_step b rules E text outcome.KeeperFault M s = s.0
before_step b rules E text outcome.Memory M s = s
before_step b rules E text (outcome.Form refused) M s = s.0
before_step b rules E text (outcome.NoImport name) M s = s.0
before_step b rules E text (outcome.AlreadyWithdrawn n name) M s = s.0
before_step b rules E text (outcome.Range name number limit) M s = s.0
before_step b rules E text (outcome.TooManyChoices count) M s = s.0
before_step b rules E text (outcome.Already n name) M s = s.0
before_step b rules E text (outcome.IsWithdrawn n name) M s = s.0
before_step b rules E text (outcome.NameTaken n name) M s = s.0
before_step b rules E text outcome.Full M s = s.0
before_step b rules E text (outcome.Dependent form part choice coefficients) M s = s.0

imported : (base : Base) (E : List Event) (text : List ℕ) (o : Outcome) (M : List Event) → o ≢ outcome.Memory → IsStep base.bounds base.rules E text o M → IsImported base text o M
imported base E text o M kept step =
    (kept, subst (λ (L : List Event). IsStep base.bounds base.rules L text o M) (sym (before_step base.bounds base.rules E text o M step)) step)

-- what a desk says of an import, read off its front
pub imported_front : (p q : Publication Base) (front : Option (FrontState Event)) (E M : List Event) (text : List ℕ) (o : Outcome) (P Q : Type 0) → p ≡ q
    → IfSome front (λ f. IsFrontOf p M f × P) → IfSome front (λ _. (o ≢ outcome.Memory) × IsStep p.base.bounds p.base.rules E text o M) → IfNone front ((o ≡ outcome.Memory) × Q)
    → MatchOption front (o ≡ outcome.Memory) (λ f. (f.identity ≡ q.identity) × IsImported q.base text o f.list)
imported_front p q (Some f) E M text o P Q same is step memory =
    subst (λ (r : Publication Base). (f.identity ≡ r.identity) × IsImported r.base text o f.list) same
    (is.0.0, subst (IsImported p.base text o) (sym is.0.1) (imported p.base E text o M step.0 step.1))
imported_front p q None E M text o P Q same is step memory = memory.0
