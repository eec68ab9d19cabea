-- Cells of a table, their order and their numbers.
use Rattle.std.specs.Prelude.{◌≡◌, ℕ, zero, suc, ◌+◌, ◌-◌, ◌*◌, ◌<◌, ◌≤◌, ◌⊎◌}
use Rattle.mt_linear.specs.declared.order.Order.{Order}
use Rattle.mt_linear.specs.Field.{number_of}
use Rattle.mt_cells.specs.declared.bounds.Bounds.{Bounds}
use Rattle.mt_cells.specs.declared.cells.Cell.{Cell}
use Rattle.mt_cells.specs.declared.cells.Cell.TheVariants.{Ooa, Seq}
use Rattle.mt_linear.specs.declared.order.Order.TheVariants.{Q2, Q3, Q4, Q5, Q7, Q8, Q9}

-- the cells of a table
abbrev pub InBounds : Bounds → Cell → Type 0
InBounds b (Ooa o m s depth) = (1 ≤ m) × (m ≤ b.m_max) × (1 ≤ s) × (s ≤ b.s_max) × (1 ≤ depth) × (depth ≤ m)
InBounds b (Seq o m s) = (1 ≤ m) × (m ≤ b.m_max) × (1 ≤ s) × (s ≤ b.s_max)

-- the order of its field
abbrev pub order_of : Cell → Order
order_of (Ooa o m s depth) = o
order_of (Seq o m s) = o

-- the columns of its systems
abbrev pub columns_of : Cell → ℕ
columns_of (Ooa o m s depth) = m
columns_of (Seq o m s) = m

-- the coordinates of its systems
abbrev pub coordinates_of : Cell → ℕ
coordinates_of (Ooa o m s depth) = s
coordinates_of (Seq o m s) = s

-- the order of cells: by q; then arrays before sequences; arrays by m, s and depth, sequences by m and s
abbrev pub Before : Cell → Cell → Type 0
Before (Ooa o m s d) (Ooa p n t e) = (number_of o < number_of p) ⊎ ((o ≡ p) × ((m < n) ⊎ ((m ≡ n) × ((s < t) ⊎ ((s ≡ t) × (d < e))))))
Before (Ooa o m s d) (Seq p n t) = number_of o ≤ number_of p
Before (Seq o m s) (Ooa p n t e) = number_of o < number_of p
Before (Seq o m s) (Seq p n t) = (number_of o < number_of p) ⊎ ((o ≡ p) × ((m < n) ⊎ ((m ≡ n) × (s < t))))

-- the index of an order among the seven
abbrev pub index_of : Order → ℕ
index_of Q2 = 0
index_of Q3 = 1
index_of Q4 = 2
index_of Q5 = 3
index_of Q7 = 4
index_of Q8 = 5
index_of Q9 = 6

-- the sum of the numbers below n
unfoldable pub triangle : ℕ → ℕ
triangle zero = 0
triangle (suc n) = triangle n + n

-- how many arrays of one order there are
abbrev pub arrays_of : Bounds → ℕ
arrays_of b = b.s_max * triangle (b.m_max + 1)

-- how many cells of one order there are
abbrev pub per_order_of : Bounds → ℕ
per_order_of b = arrays_of b + b.m_max * b.s_max

abbrev pub cells_of : Bounds → ℕ
cells_of b = 7 * per_order_of b

-- the number of a cell, which is how many stand before it
unfoldable pub number : Bounds → Cell → ℕ
number b (Ooa o m s depth) = index_of o * per_order_of b + (b.s_max * triangle m + ((s - 1) * m + (depth - 1)))
number b (Seq o m s) = index_of o * per_order_of b + (arrays_of b + ((m - 1) * b.s_max + (s - 1)))
