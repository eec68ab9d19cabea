-- Internal: the two copies of a publisher's value.
use Rattle.std.specs.Prelude.{List, [], ◌∷◌, ◌++◌, Option, Some, None}

module _ {E : Type 0} where
  -- the list of a copy once it has the entry that it lacks
  abbrev pub caught_up : List E → Option E → List E
  caught_up xs None = xs
  caught_up xs (Some e) = xs ++ e ∷ []
