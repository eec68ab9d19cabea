-- The system that each rule makes of two parents a and b, of which a is not the deeper one.
use Rattle.std.specs.Prelude.{ℕ, ◌+◌, ◌-◌, ◌==◌, min, cond, ltb}
use Rattle.mt_linear.specs.Field.{neg_of}
use Rattle.mt_system.specs.Rows.{Matrices}
use Rattle.mt_system.specs.Digits.{digit_of, HasDigits}

-- digit c of row j of coordinate i of a, whose missing rows are zero
abbrev pub deepened : Matrices → ℕ → ℕ → ℕ → ℕ
deepened a i j c = cond (ltb j a.depth) (digit_of a i j c) 0

-- m digits, and others behind them
abbrev pub beside : ℕ → (ℕ → ℕ) → (ℕ → ℕ) → ℕ → ℕ
beside m left right c = cond (ltb c m) (left c) (right (c - m))

-- no digit but zero
abbrev pub zeros : ℕ → ℕ
zeros c = 0

-- (a, 0) for the coordinates of a, then (0, b) for those of b
abbrev pub product_digit : Matrices → Matrices → ℕ → ℕ → ℕ → ℕ
product_digit a b i j =
    cond (ltb i a.coordinates) (beside a.columns (deepened a i j) zeros) (beside a.columns zeros (digit_of b (i - a.coordinates) j))

-- (a, -b) for the coordinates of a, each with the one of b that has its number, then (0, b) for those of b
abbrev pub uuv_digit : Matrices → Matrices → ℕ → ℕ → ℕ → ℕ
uuv_digit a b i j =
    cond (ltb i a.coordinates) (beside a.columns (deepened a i j) (λ c. neg_of b.order (digit_of b i j c)))
    (beside a.columns zeros (digit_of b (i - a.coordinates) j))

-- the direct product
abbrev pub IsProduct : Matrices → Matrices → Matrices → Type 0
IsProduct a b r = HasDigits r b.order (a.columns + b.columns) (a.coordinates + b.coordinates) b.depth (product_digit a b)

-- the (u,u+v) system
abbrev pub IsUuv : Matrices → Matrices → Matrices → Type 0
IsUuv a b r = HasDigits r b.order (a.columns + b.columns) (a.coordinates + b.coordinates) b.depth (uuv_digit a b)

-- the strength of a system of this strength whose depth is raised by zero rows
abbrev pub deepened_strength : ℕ → ℕ → ℕ → ℕ
deepened_strength depth deeper k = cond (depth == deeper) k (min k depth)
