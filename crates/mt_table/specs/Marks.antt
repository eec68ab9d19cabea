-- Internal: a reader need not believe this.
-- Values before an event and after it, by the numbers of cells.
use Rattle.std.specs.Prelude.{◌≡◌, ◌≢◌, ℕ, ◌<◌, ◌⊎◌, ◌↔◌, List, get_or, AllPairs, Contains}
use Rattle.mt_cells.specs.declared.bounds.Bounds.{Bounds}
use Rattle.mt_cells.specs.declared.cells.Cell.{Cell}
use Rattle.mt_cells.specs.Cells.{InBounds, number}

-- where the values at place n are the same, the last event stays; else it is this one
abbrev pub IsMarked : List ℕ → List ℕ → List ℕ → List ℕ → ℕ → ℕ → Type 0
IsMarked old new before after event n =
    ((get_or old n 0 ≡ get_or new n 0) × (get_or after n 0 ≡ get_or before n 0))
    ⊎ ((get_or old n 0 ≢ get_or new n 0) × (get_or after n 0 ≡ event))

-- the cells before number n whose values are not the same, in their order
pub record AreOther (b : Bounds) (old new : List ℕ) (n : ℕ) (cells : List Cell) : Type 0 where
  pub ascending : AllPairs (λ c d. number b c < number b d) cells
  pub each : (c : Cell) → Contains cells c ↔ (InBounds b c × (number b c < n) × (get_or old (number b c) 0 ≢ get_or new (number b c) 0))
