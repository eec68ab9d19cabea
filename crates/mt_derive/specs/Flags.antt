-- Internal: a reader need not believe this.
-- For each import, whether it is live, as a list of flags.
use Rattle.std.specs.Prelude.{◌≡◌, ℕ, suc, ◌+◌, Bool, true, cond, List, length, get_or}
use Rattle.std.specs.List.{sum_by}
use Rattle.mt_derive.specs.declared.events.Event.{Event}
use Rattle.mt_derive.specs.Events.{imports_of, is_live}

-- how many flags are set
abbrev pub count_set : List Bool → ℕ
count_set flags = sum_by (λ f. cond f 1 0) flags

-- a flag for each import, that says whether it is live; each import was pushed once, and each one that is not live was withdrawn once
pub record AreFlags (E : List Event) (flags : List Bool) : Type 0 where
  pub count : length flags ≡ length (imports_of E)
  pub each : (n : ℕ) → get_or flags n true ≡ is_live E (suc n)
  pub balance : length E + count_set flags ≡ length flags + length flags
