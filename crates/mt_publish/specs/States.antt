-- What a publisher, a viewer and a front are to their callers.
use Rattle.std.specs.Prelude.{◌≡◌, ℕ, ◌+◌, ◌-◌, ◌^◌, min, max, List, [], length}
use Rattle.atomic_table.specs.Seated.{TableId}
use mathlib.Core.List.{IsPrefix}
use Rattle.mt_publish.specs.Prefixes.{AllPrefixes, longest}

-- a publication: what no other one shares with it, and the base of all its values
pub record Publication (B : Type 0) : Type 0 where
  pub identity : TableId
  pub base : B

-- a publisher: its publication, and the published list
pub record PublisherState (B E : Type 0) : Type 0 where
  pub publication : Publication B
  pub list : List E

-- a viewer: its publication, the list of its last view, the lists of the fronts that it learnt since, and how many views it was not given
pub record ViewerState (B E : Type 0) : Type 0 where
  pub publication : Publication B
  pub seen : List E
  pub learnt : List (List E)
  pub missed : ℕ

-- a front: what no other publication shares with its own, and a list that was published there
pub record FrontState (E : Type 0) : Type 0 where
  pub identity : TableId
  pub list : List E

-- one miss more, which stops at the greatest u64
abbrev pub next_miss : ℕ → ℕ
next_miss missed = min (missed + 1) (2 ^ 64 - 1)

module _ {B E : Type 0} where
  -- the front is one of the publication, with this list
  abbrev pub IsFrontOf : Publication B → List E → FrontState E → Type 0
  IsFrontOf publication list front = (front.identity ≡ publication.identity) × (front.list ≡ list)

  -- a viewer of the publication that saw and learnt nothing
  abbrev pub IsNew : Publication B → ViewerState B E → Type 0
  IsNew publication viewer = (viewer.publication ≡ publication) × (viewer.seen ≡ []) × (viewer.learnt ≡ []) × (viewer.missed ≡ 0)

  -- the list has all that the viewer saw last and learnt since as prefixes
  abbrev pub Extends : List E → ViewerState B E → Type 0
  Extends list viewer = IsPrefix viewer.seen list × AllPrefixes list viewer.learnt

  -- the greatest number of entries that the viewer saw or learnt
  abbrev pub shown : ViewerState B E → ℕ
  shown viewer = max (length viewer.seen) (longest viewer.learnt)
