-- What the words of the command line start.
use Rattle.std.specs.Prelude.{◌≡◌, ◌≢◌, ℕ, ◌<◌, List, ◌∷◌, length, map, string_bytes, codes, Option, None, Some}
use Rattle.std.specs.Borrow.{Bor}
use Rattle.mint.specs.declared.start.Start.{Start}
use Rattle.mint.specs.declared.start.Start.TheVariants.{Usage, Command}
use Rattle.mint.specs.declared.start.Store.{Store}
use Rattle.mint.specs.declared.start.Store.TheVariants.{Memory, Path}

-- the store that its word is: the one in memory for this word alone, and else the one at the path
abbrev pub IsStore : List ℕ → Store → Type 0
IsStore word Memory = word ≡ codes ":memory:"
IsStore word (Path path) = (word ≢ codes ":memory:") × (path.now ≡ word)

-- the path that the feed's word is; none for a dash
abbrev pub IsFeed : List ℕ → Option (Bor (List ℕ)) → Type 0
IsFeed word None = word ≡ codes "-"
IsFeed word (Some path) = (word ≢ codes "-") × (path.now ≡ word)

-- the words are too few, or they are the program's name, the store, the feed and those of a command
abbrev pub IsStart : List (List ℕ) → Start → Type 0
IsStart words Usage = length words < 3
IsStart words (Command store feed command) =
    (program s f : List ℕ) × (words ≡ program ∷ s ∷ f ∷ map string_bytes command.now) × IsStore s store × IsFeed f feed
