-- What is taken of the input.
use Rattle.std.specs.Prelude.{ℕ, ◌<◌, ◌≤◌, List, [], length, Option}
use Rattle.mt_io.specs.Told.{NoneLeft, Keeps}

-- the text is the input up to its end or to this many bytes
pub record IsInput (most : ℕ) (before after : Option (List ℕ)) (text : List ℕ) : Type 0 where
  pub taken : Keeps [] before text after
  pub few : length text ≤ most
  pub whole : length text < most → NoneLeft after

-- at most this many bytes were taken
pub record TakesAtMost (most : ℕ) (before after : Option (List ℕ)) : Type 0 where
  pub text : List ℕ
  pub taken : Keeps [] before text after
  pub few : length text ≤ most
