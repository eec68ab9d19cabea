-- What a command does to the records of its store.
use Rattle.std.specs.Prelude.{◌≡◌, ℕ, List, Option}
use Rattle.mt_io.specs.Told.{WhereTold}
use Rattle.mt_cells.specs.declared.bounds.Bounds.{Bounds}
use Rattle.mt_derive.specs.declared.events.Event.{Event}
use Rattle.mt_service.specs.declared.opening.OpenRefused.{OpenRefused}
use Rattle.mt_service.specs.Records.{StandFor, ArePut}
use Rattle.mt_service.specs.Opening.{AreRefused}

-- the records stay as they are, where they are told
abbrev pub AreLeft : Option (List (List ℕ)) → Option (List (List ℕ)) → Type 0
AreLeft before after = WhereTold before after (λ old new. new ≡ old)

-- the records, which stay as they are, are refused for this reason
pub record IsBadStore (b : Bounds) (before after : Option (List (List ℕ))) (r : OpenRefused) : Type 0 where
  pub records : List (List ℕ)
  pub told : WhereTold before after (λ old new. records ≡ old)
  pub refused : AreRefused b records r
  pub left : AreLeft before after

-- the records stand for the list E, which grew to M, and the canonical texts of the new events are put behind them
pub record Grows (b : Bounds) (before after : Option (List (List ℕ))) (E M : List Event) : Type 0 where
  pub records : List (List ℕ)
  pub told : WhereTold before after (λ old new. records ≡ old)
  pub stand : StandFor b records E
  pub put : ArePut before after E M
