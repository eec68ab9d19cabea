-- Numbers in words. Internal: a reader need not believe this.
use Rattle.std.specs.Prelude.{◌≡◌, ◌≢◌, ℕ, slice_index, length, List}

-- a word in which no plus stands first, and a zero only where it is alone
pub record IsPlain (word : List ℕ) : Type 0 where
  pub unsigned : slice_index word 0 ≢ 43
  pub zero : slice_index word 0 ≡ 48 → length word ≡ 1
