-- What contracts see of a desk, and what it does.
use Rattle.std.specs.Prelude.{◌≡◌, ◌⊎◌, ℕ, ◌≤◌, List, [], ◌∷◌, ◌++◌, take, Option, Ok}
use Rattle.mt_cells.specs.declared.bounds.Bounds.{Bounds}
use Rattle.mt_cells.specs.declared.rules.RuleSet.{RuleSet}
use Rattle.mt_derive.specs.declared.events.Event.{Event}
use Rattle.mt_derive.specs.Events.{Follows}
use Rattle.mt_keeper.specs.Keeping.{Loads}
use Rattle.mt_publish.specs.States.{Publication}
use Rattle.mt_table.specs.declared.published.Base.{Base}
use Rattle.mt_service.specs.declared.outcomes.Outcome.{Outcome}
use Rattle.mt_service.specs.Steps.{IsStep}
use Rattle.mt_server.specs.Interleavings.{Happening, accept, publish, front, State, state_after, AllMayCome}

-- the publication, whose base is the bounds and the rules; the accepted list; the published list; and the keeper
pub record HistoryState (K : Type 0) : Type 0 where
  pub publication : Publication Base
  pub accepted : List Event
  pub published : List Event
  pub keeper : K

-- the accepted list is the published one, or has one event more, which may follow
abbrev pub IsBehind : Bounds → List Event → List Event → Type 0
IsBehind b published accepted = (accepted ≡ published) ⊎ ((e : Event) × Follows b published e × (accepted ≡ published ++ e ∷ []))

-- P of the records that a load gives
abbrev pub IfLoaded : Option (List (List ℕ)) → Option (List (List ℕ)) → (List (List ℕ) → Type 0) → Type 0
IfLoaded before after P = (records : List (List ℕ)) × Loads {E = Unit {0}} before after (Ok records) × P records

-- an import that wants memory accepts nothing and may publish what was outstanding; or the text is accepted, and is outstanding then
abbrev pub IsUnfinished : Bounds → RuleSet → List ℕ → List Event → List Event → List Event → List Event → Type 0
IsUnfinished b rules text accepted published accepted' published' =
    ((accepted' ≡ accepted) × ((published' ≡ published) ⊎ (published' ≡ accepted)))
    ⊎ ((published' ≡ accepted) × ((e : Event) × (accepted' ≡ accepted ++ e ∷ [])) × ((o : Outcome) × IsStep b rules accepted text o accepted'))

-- these may come over a list accepted and a list published, whatever readers were shown and whatever fronts were given, and lead to two others
abbrev pub LeadTo : Bounds → RuleSet → List Happening → List Event → List Event → List Event → List Event → Type 0
LeadTo b rules happenings accepted published accepted' published' =
    (shown : ℕ → List (List Event)) (fronts : List (List Event))
    → let s : State = record { accepted = accepted; published = published; shown = shown; fronts = fronts } in
    AllMayCome b rules s happenings × ((state_after s happenings).accepted ≡ accepted') × ((state_after s happenings).published ≡ published')

-- an import: what is outstanding is published, the text comes to its outcome, that is published, and a front is given
abbrev pub import_of : List ℕ → Outcome → List Event → List Happening
import_of text outcome list = publish ∷ accept text outcome list ∷ publish ∷ front ∷ []

-- an import that wants memory: none of these, the first, or the first two
abbrev pub LeadPartly : Bounds → RuleSet → List ℕ → List Event → List Event → List Event → List Event → Type 0
LeadPartly b rules text accepted published accepted' published' =
    (n : ℕ) × (n ≤ 2) × ((o : Outcome) × LeadTo b rules (take n (import_of text o accepted')) accepted published accepted' published')

-- a look: what is outstanding is published, and a front is given
abbrev pub look_happenings : List Happening
look_happenings = publish ∷ front ∷ []

-- a look that wants memory: none of these, or the first
abbrev pub LookPartly : Bounds → RuleSet → List Event → List Event → List Event → List Event → Type 0
LookPartly b rules accepted published accepted' published' =
    (n : ℕ) × (n ≤ 1) × LeadTo b rules (take n look_happenings) accepted published accepted' published'
