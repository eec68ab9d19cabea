-- How a feed fares that is told a text unless it has failed.
use Rattle.std.specs.Prelude.{◌≡◌, ◌≢◌, ℕ, List, ◌++◌, Option, None, Some}
use Rattle.mt_io.specs.Streams.{AppendsPrefix}

-- the text was told; no object begins to tell
abbrev pub IsTold : Option (List ℕ) → Option (List ℕ) → List ℕ → Type 0
IsTold None None text = Unit {0}
IsTold None (Some after) text = ⊥
IsTold (Some before) None text = Unit {0}
IsTold (Some before) (Some after) text = after ≡ before ++ text

-- some prefix of the text was told; no object begins to tell
abbrev pub IsToldPrefix : Option (List ℕ) → Option (List ℕ) → List ℕ → Type 0
IsToldPrefix None None text = Unit {0}
IsToldPrefix None (Some after) text = ⊥
IsToldPrefix (Some before) None text = Unit {0}
IsToldPrefix (Some before) (Some after) text = AppendsPrefix before after text

-- a feed that had failed stays as it is; one that has not failed was told the whole text; any other, which failed meanwhile, a prefix of it
pub record Fares {F : Type 0} (told : F → Option (List ℕ)) (faults : F → ℕ) (text : List ℕ) (old new : F) : Type 0 where
  pub failed : faults old ≢ 0 → new ≡ old
  pub whole : faults new ≡ 0 → IsTold (told old) (told new) text
  pub prefix : IsToldPrefix (told old) (told new) text
