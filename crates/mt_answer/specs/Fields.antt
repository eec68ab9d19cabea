-- Internal: fields of comma-separated values that are written as they are.
use Rattle.std.specs.Prelude.{◌≡◌, ℕ, ◌<◌, false, List, length, All}
use Rattle.csv.specs.Writing.{needs_quotes, default_writer}

-- it has a byte, and none that calls for quotes
abbrev pub IsPlain : List ℕ → Type 0
IsPlain field = (0 < length field) × (needs_quotes default_writer field ≡ false)

abbrev pub ArePlain : List (List ℕ) → Type 0
ArePlain fields = All IsPlain fields
