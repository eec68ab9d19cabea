-- Clauses on what an object tells, which it may not tell at all.
use Rattle.std.specs.Prelude.{◌≡◌, ℕ, List, [], ◌++◌, Option, None, Some}

-- R of what is told before and after, where it is told both times; no object begins to tell
abbrev pub WhereTold : {A : Type 0} → Option A → Option A → (A → A → Type 0) → Type 0
WhereTold None None R = Unit {0}
WhereTold None (Some after) R = ⊥
WhereTold (Some before) None R = Unit {0}
WhereTold (Some before) (Some after) R = R before after

-- no byte is left, where the bytes left are told
abbrev pub NoneLeft : Option (List ℕ) → Type 0
NoneLeft None = Unit {0}
NoneLeft (Some left) = left ≡ []

-- the bytes held, and then those left where they are told, are the same bytes before and after
abbrev pub Keeps : List ℕ → Option (List ℕ) → List ℕ → Option (List ℕ) → Type 0
Keeps held before held' after = WhereTold before after (λ left left'. held ++ left ≡ held' ++ left')
