-- Lists that begin another one.
use Rattle.std.specs.Prelude.{ℕ, max, List, [], ◌∷◌, All, length}
use mathlib.Core.List.{IsPrefix}

module _ {E : Type 0} where
  -- each of the lists is a prefix of the list
  abbrev pub AllPrefixes : List E → List (List E) → Type 0
  AllPrefixes list lists = All (λ l. IsPrefix l list) lists

  -- the length of the longest of the lists, or 0
  abbrev pub longest : List (List E) → ℕ
  longest [] = 0
  longest (l ∷ ls) = max (length l) (longest ls)
