-- The rows of a system as bytes.
use Rattle.std.specs.Prelude.{ℕ, ◌+◌, ◌*◌, ◌<◌, List, slice_index}
use Rattle.mt_system.specs.Rows.{Matrices, part_rows}
use Rattle.mt_strength.specs.Lanes.{row_at, HasLanes, lane_of}

-- the first `each` rows of the first n coordinates, of these the first `width` digits, one after another
abbrev pub IsPacked : Matrices → ℕ → ℕ → ℕ → List ℕ → Type 0
IsPacked a width each n rows = (i j : ℕ) → i < n → j < each → HasLanes (row_at rows (i * each + j)) (λ k. lane_of a.order (slice_index (part_rows a width i j) k))
