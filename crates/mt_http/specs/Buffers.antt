-- What a buffer holds of a stream, and what reading does to it.
use Rattle.std.specs.Prelude.{◌≡◌, ℕ, List, ◌++◌, length, drop, Option}
use Rattle.mt_io.specs.Told.{Keeps}

-- the bytes held, and how many of them belong to the request that was read last
pub record Held : Type 0 where
  pub bytes : List ℕ
  pub spent : ℕ

-- the bytes that are not yet part of a request
abbrev pub ahead : Held → List ℕ
ahead b = drop b.spent b.bytes

-- more was put behind what was held
abbrev pub Grows : List ℕ → List ℕ → Type 0
Grows old new = new ≡ old ++ drop (length old) new

-- bytes moved from a source to what is held
pub record Moves (old : List ℕ) (before : Option (List ℕ)) (new : List ℕ) (after : Option (List ℕ)) : Type 0 where
  pub grows : Grows old new
  pub keeps : Keeps old before new after
