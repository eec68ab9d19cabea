-- What the laws of steps say.
use Rattle.std.specs.Prelude.{◌≡◌, ℕ, ◌≤◌, List}
use Rattle.mt_cells.specs.declared.bounds.Bounds.{Bounds}
use Rattle.mt_cells.specs.declared.rules.RuleSet.{RuleSet}
use Rattle.mt_derive.specs.declared.events.Event.{Event}
use Rattle.mt_service.specs.declared.outcomes.Outcome.{Outcome}
use Rattle.mt_service.specs.declared.outcomes.Outcome.TheVariants as outcome
use Rattle.mt_service.specs.Steps.{IsStep}

-- the place of an outcome in the order in which they are looked for; none for those that the text and the list do not decide
abbrev pub place_of : Outcome → ℕ
place_of (outcome.Form refused) = 1
place_of (outcome.NoImport name) = 2
place_of (outcome.AlreadyWithdrawn n name) = 3
place_of (outcome.Withdrawn n name lowered tried) = 4
place_of (outcome.Range name number limit) = 5
place_of (outcome.TooManyChoices count) = 6
place_of (outcome.Already n name) = 7
place_of (outcome.IsWithdrawn n name) = 8
place_of (outcome.NameTaken n name) = 9
place_of outcome.Full = 10
place_of (outcome.Dependent form part choice coefficients) = 11
place_of (outcome.Accepted n name raised tried) = 12
place_of outcome.KeeperFault = 0
place_of outcome.Memory = 0

-- two outcomes of one text over one list stand at one place, with one list after them
abbrev pub HasOneStep : Bounds → RuleSet → List Event → List ℕ → Type 0
HasOneStep b rules E text = (o p : Outcome) (M N : List Event) → IsStep b rules E text o M → IsStep b rules E text p N
    → 1 ≤ place_of o → 1 ≤ place_of p → (place_of o ≡ place_of p) × (M ≡ N)
