-- What the desk and its readers do, one after the other, in any order.
use Rattle.std.specs.Prelude.{◌≡◌, ℕ, ◌+◌, ◌≤◌, ◌==◌, if◌then◌else◌, List, [], ◌∷◌, ◌++◌, length, take, Contains}
use mathlib.Core.List.{IsPrefix}
use Rattle.mt_system.specs.Statements.{Statement}
use Rattle.mt_cells.specs.declared.bounds.Bounds.{Bounds}
use Rattle.mt_cells.specs.declared.rules.RuleSet.{RuleSet}
use Rattle.mt_derive.specs.declared.events.Event.{Event}
use Rattle.mt_derive.specs.declared.events.Event.TheVariants.{Withdraw}
use Rattle.mt_derive.specs.Events.{imports_of, AllFollow}
use Rattle.mt_derive.specs.Places.{IsAt}
use Rattle.mt_publish.specs.Prefixes.{AllPrefixes, longest}
use Rattle.mt_service.specs.declared.outcomes.Outcome.{Outcome}
use Rattle.mt_service.specs.Steps.{IsStep}

-- readers have numbers
pub data Happening : Type 0 where
  -- the text comes to the outcome, and then the accepted list is this one; it stays where the keeper fails or memory is wanting
  accept : (text : List ℕ) (outcome : Outcome) (list : List Event) → Happening
  -- the accepted list is published
  publish : Happening
  -- the reader is shown the first so many events of the published list
  view : (reader entries : ℕ) → Happening
  -- a front of the published list is given
  front : Happening
  -- the reader learns the list of a front
  learn : (reader : ℕ) (list : List Event) → Happening

-- the accepted list, the published list, the lists that each reader was shown or learnt, and those of the fronts
pub record State : Type 0 where
  pub accepted : List Event
  pub published : List Event
  pub shown : ℕ → List (List Event)
  pub fronts : List (List Event)

-- the list E is accepted and published, and nobody was shown anything
abbrev pub opening : List Event → State
opening E = record { accepted = E; published = E; shown = λ _. []; fronts = [] }

-- the reader has one list more
abbrev pub also_shown : (ℕ → List (List Event)) → ℕ → List Event → ℕ → List (List Event)
also_shown shown reader list r = if r == reader then list ∷ shown r else shown r

-- what it does
abbrev pub next_state : State → Happening → State
next_state s (accept text outcome list) = record s { accepted = list }
next_state s publish = record s { published = s.accepted }
next_state s (view reader n) = record s { shown = also_shown s.shown reader (take n s.published) }
next_state s front = record s { fronts = s.published ∷ s.fronts }
next_state s (learn reader list) = record s { shown = also_shown s.shown reader list }

abbrev pub state_after : State → List Happening → State
state_after s [] = s
state_after s (h ∷ hs) = state_after (next_state s h) hs

-- the texts that came to an outcome, and the outcomes
abbrev pub outcomes_of : List Happening → List (List ℕ × Outcome)
outcomes_of [] = []
outcomes_of (accept text outcome list ∷ hs) = (text, outcome) ∷ outcomes_of hs
outcomes_of (publish ∷ hs) = outcomes_of hs
outcomes_of (view reader n ∷ hs) = outcomes_of hs
outcomes_of (front ∷ hs) = outcomes_of hs
outcomes_of (learn reader list ∷ hs) = outcomes_of hs

module _ (b : Bounds) (rules : RuleSet) where
  -- where it may come: a text where all that is accepted is published, a view that shows the reader no less than before, and a front that was given
  abbrev pub MayCome : State → Happening → Type 0
  MayCome s (accept text outcome list) = (s.accepted ≡ s.published) × IsStep b rules s.accepted text outcome list
  MayCome s publish = Unit {0}
  MayCome s (view reader n) = (longest (s.shown reader) ≤ n) × (n ≤ length s.published)
  MayCome s front = Unit {0}
  MayCome s (learn reader list) = Contains s.fronts list

  abbrev pub AllMayCome : State → List Happening → Type 0
  AllMayCome s [] = Unit {0}
  AllMayCome s (h ∷ hs) = MayCome s h × AllMayCome (next_state s h) hs

  -- the texts come to these outcomes one after the other, from the list E on, and then the list is M
  abbrev pub AreSteps : List Event → List (List ℕ × Outcome) → List Event → Type 0
  AreSteps E [] M = M ≡ E
  AreSteps E (t ∷ ts) M = (L : List Event) × IsStep b rules E t.0 t.1 L × AreSteps L ts M

-- no two imports have one name
abbrev pub ImportsOnce : List Event → Type 0
ImportsOnce E = (m n : ℕ) (c d : Statement) → IsAt (imports_of E) m c → IsAt (imports_of E) n d → c.name ≡ d.name → m ≡ n

-- no two events withdraw one import
abbrev pub WithdrawsOnce : List Event → Type 0
WithdrawsOnce E = (m n i : ℕ) → IsAt E m (Withdraw i) → IsAt E n (Withdraw i) → m ≡ n

-- what holds after the happenings, from the opening list E on
pub record IsOneHistory (b : Bounds) (rules : RuleSet) (E : List Event) (happenings : List Happening) : Type 0 where
  -- the accepted list is that of the steps
  pub accepted : AreSteps b rules E (outcomes_of happenings) (state_after (opening E) happenings).accepted
  -- the published list begins it, and lacks one event at most
  pub published : IsPrefix (state_after (opening E) happenings).published (state_after (opening E) happenings).accepted
  pub behind : length (state_after (opening E) happenings).accepted ≤ length (state_after (opening E) happenings).published + 1
  -- and so does what was published at any time
  pub history : (earlier later : List Happening) → happenings ≡ earlier ++ later
      → IsPrefix (state_after (opening E) earlier).published (state_after (opening E) happenings).accepted
  -- a view extends all that the reader was shown or learnt before
  pub views : (earlier later : List Happening) (reader n : ℕ) → happenings ≡ earlier ++ view reader n ∷ later
      → AllPrefixes (take n (state_after (opening E) earlier).published) ((state_after (opening E) earlier).shown reader)
  -- a front extends all that any reader was shown or learnt before
  pub fronts : (earlier later : List Happening) (reader : ℕ) → happenings ≡ earlier ++ front ∷ later
      → AllPrefixes (state_after (opening E) earlier).published ((state_after (opening E) earlier).shown reader)
  pub imports_once : ImportsOnce (state_after (opening E) happenings).accepted
  pub withdraws_once : WithdrawsOnce (state_after (opening E) happenings).accepted

-- that holds whatever happens, from a list of events of which each may follow those before it
abbrev pub AllAreOneHistory : Bounds → RuleSet → Type 0
AllAreOneHistory b rules = (E : List Event) (happenings : List Happening) → AllFollow b E → AllMayCome b rules (opening E) happenings → IsOneHistory b rules E happenings
