-- The systems that stand without a parent.
use Rattle.std.specs.Prelude.{ℕ, suc, ◌==◌, cond, ltb}
use Rattle.mt_linear.specs.declared.order.Order.{Order}
use Rattle.mt_system.specs.Rows.{Matrices}
use Rattle.mt_system.specs.Digits.{HasDigits, unit}

-- all rows are zero
abbrev pub IsZero : Order → ℕ → ℕ → ℕ → Matrices → Type 0
IsZero o m s depth a = HasDigits a o m s depth (λ i j c. 0)

-- the first row of each coordinate is the first unit vector, the others are zero
abbrev pub IsConstant : Order → ℕ → ℕ → ℕ → Matrices → Type 0
IsConstant o m s depth a = HasDigits a o m s depth (λ i j c. cond (j == 0) (unit 0 c) 0)

-- one coordinate, whose rows are the unit vectors in their order
abbrev pub IsIdentity : Order → ℕ → Matrices → Type 0
IsIdentity o m a = HasDigits a o m 1 m (λ i j c. unit j c)

-- one row a coordinate: the unit vectors in their order, and their sum
abbrev pub IsParity : Order → ℕ → Matrices → Type 0
IsParity o m a = HasDigits a o m (suc m) 1 (λ i j c. cond (ltb i m) (unit i c) 1)
