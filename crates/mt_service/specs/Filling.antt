-- Internal: the parts of an opening.
use Rattle.std.specs.Prelude.{◌≡◌, ℕ, List, [], ◌∷◌, ◌++◌, Option, None, Some, Result, Ok, Err}
use Rattle.mt_cells.specs.declared.bounds.Bounds.{Bounds}
use Rattle.mt_derive.specs.declared.events.Event.{Event}
use Rattle.mt_service.specs.declared.outcomes.Outcome.{Outcome}
use Rattle.mt_service.specs.declared.opening.Why.{Why}
use Rattle.mt_service.specs.declared.opening.Bad.{Bad}
use Rattle.mt_service.specs.declared.opening.Bad.TheVariants as bad
use Rattle.mt_service.specs.declared.opening.OpenRefused.{OpenRefused}
use Rattle.mt_service.specs.declared.opening.OpenRefused.TheVariants as refused
use Rattle.mt_service.specs.Steps.{IsAccepted}
use Rattle.mt_service.specs.Records.{AreAccepted}
use Rattle.mt_service.specs.Opening.{why_of, IsBad, IsFirstBad}

abbrev pub bad_by_why : Option Why → Bad
bad_by_why (Some w) = bad.Why w
bad_by_why None = bad.Memory

abbrev pub bad_of : Outcome → Bad
bad_of o = bad_by_why (why_of o)

-- the event of a record is appended, or why not
abbrev pub Adopts : {T : Type 0} → Bounds → List Event → List ℕ → List Event → Result T Bad → Type 0
Adopts b E text M (Ok _) = (e : Event) × IsAccepted b E text e × (M ≡ E ++ e ∷ [])
Adopts b E text M (Err (bad.Why w)) = IsBad b E text w
Adopts b E text M (Err bad.Memory) = Unit {0}

-- the events of all records are the list, or why not
abbrev pub Fills : {T : Type 0} → Bounds → List (List ℕ) → List Event → Result T OpenRefused → Type 0
Fills b records M (Ok _) = AreAccepted b [] records M
Fills b records M (Err (refused.BadRecord n w)) = IsFirstBad b records n w
Fills b records M (Err refused.Memory) = Unit {0}
Fills b records M (Err r) = ⊥

abbrev pub refused_of : Bad → ℕ → OpenRefused
refused_of (bad.Why w) n = refused.BadRecord n w
refused_of bad.Memory n = refused.Memory
