-- The system b that each rule makes of a parent a.
use Rattle.std.specs.Prelude.{◌≡◌, ◌≢◌, ℕ, zero, suc, ◌-◌, ◌<◌, List, length, slice_index, cond, ltb}
use Rattle.mt_linear.specs.declared.order.Order.{Order}
use Rattle.mt_linear.specs.Field.{add_of, mul_of, neg_of, inv_of}
use Rattle.mt_system.specs.Rows.{Matrices, row_of}
use Rattle.mt_system.specs.Digits.{digit_of, HasDigits, unit}

-- the last coordinate is dropped
abbrev pub IsFewer : Matrices → Matrices → Type 0
IsFewer a b = HasDigits b a.order a.columns (a.coordinates - 1) a.depth (digit_of a)

-- the last row of each coordinate is dropped
abbrev pub IsShallower : Matrices → Matrices → Type 0
IsShallower a b = HasDigits b a.order a.columns a.coordinates (a.depth - 1) (digit_of a)

-- a zero row is added to each coordinate
abbrev pub IsDeeper : Matrices → Matrices → Type 0
IsDeeper a b =
    HasDigits b a.order a.columns a.coordinates (suc a.depth) (λ i j c. cond (ltb j a.depth) (digit_of a i j c) 0)

-- a zero column is added at the right
abbrev pub IsLonger : Matrices → Matrices → Type 0
IsLonger a b =
    HasDigits b a.order (suc a.columns) a.coordinates a.depth (λ i j c. cond (ltb c a.columns) (digit_of a i j c) 0)

-- p is the first column in which v is not zero
pub record IsPivot (v : List ℕ) (p : ℕ) : Type 0 where
  pub within : p < length v
  pub not_zero : slice_index v p ≢ 0
  pub first : (c : ℕ) → c < p → slice_index v c ≡ 0

-- the columns but p, in order
abbrev pub skip : ℕ → ℕ → ℕ
skip p c = cond (ltb c p) c (suc c)

-- digit c of r - (r_p / v_p) * v
abbrev pub reduced : Order → List ℕ → ℕ → List ℕ → ℕ → ℕ
reduced o v p r c =
    add_of o (slice_index r c) (neg_of o (mul_of o (mul_of o (slice_index r p) (inv_of o (slice_index v p))) (slice_index v c)))

-- digit c of row j of coordinate i of a, modulo the first row of its first coordinate, whose pivot column p is left out
abbrev pub modulo_first : Matrices → ℕ → ℕ → ℕ → ℕ → ℕ
modulo_first a p i j c = reduced a.order (row_of a 0 0) p (row_of a i j) (skip p c)

-- the rows of the first coordinate but its first, and the rows of the others but their last
abbrev pub remaining_row : ℕ → ℕ → ℕ
remaining_row zero j = suc j
remaining_row (suc i) j = j

-- the remaining rows modulo the first row of the first coordinate
abbrev pub IsQuotientKeep : Matrices → Matrices → Type 0
IsQuotientKeep a b =
    (p : ℕ) × IsPivot (row_of a 0 0) p
    × HasDigits b a.order (a.columns - 1) a.coordinates (a.depth - 1) (λ i j c. modulo_first a p i (remaining_row i j) c)

-- all coordinates but the first modulo the first row of the first
abbrev pub IsQuotientDrop : Matrices → Matrices → Type 0
IsQuotientDrop a b =
    (p : ℕ) × IsPivot (row_of a 0 0) p
    × HasDigits b a.order (a.columns - 1) (a.coordinates - 1) a.depth (λ i j c. modulo_first a p (suc i) j c)

-- the last column and the last row of each coordinate are dropped
abbrev pub IsCut : Matrices → Matrices → Type 0
IsCut a b = HasDigits b a.order (a.columns - 1) a.coordinates (a.depth - 1) (digit_of a)

-- a last coordinate is added, whose rows are the unit vectors from the last to the first
abbrev pub IsNet : Matrices → Matrices → Type 0
IsNet a b =
    HasDigits b a.order a.columns (suc a.coordinates) a.depth
    (λ i j c. cond (ltb i a.coordinates) (digit_of a i j c) (unit (a.columns - 1 - j) c))
