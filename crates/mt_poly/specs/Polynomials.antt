-- Polynomials over a finite field: lists of coefficients, the constant first.
use Rattle.std.specs.Prelude.{◌≡◌, ◌≢◌, ℕ, zero, suc, ◌-◌, ◌<◌, ◌≤◌, ◌↔◌, List, [], ◌∷◌, length, slice_index}
use Rattle.mt_linear.specs.declared.order.Order.{Order}
use Rattle.mt_linear.specs.Field.{add_of, mul_of}
use Rattle.mt_linear.specs.Linear.{AllElements}

-- what contracts see of a `Poly`
pub record Polynomial : Type 0 where
  pub order : Order
  pub coefficients : List ℕ

-- the coefficients are elements, and the last one is not 0; past the end they read as 0
pub record IsPolynomial (o : Order) (p : List ℕ) : Type 0 where
  pub elements : AllElements o p
  pub lead : 0 < length p → slice_index p (length p - 1) ≢ 0

-- f 0 + .. + f (n - 1)
abbrev pub sum_to : Order → ℕ → (ℕ → ℕ) → ℕ
sum_to o zero f = 0
sum_to o (suc n) f = add_of o (sum_to o n f) (f n)

abbrev pub IsSum : Order → List ℕ → List ℕ → List ℕ → Type 0
IsSum o p q r = (n : ℕ) → slice_index r n ≡ add_of o (slice_index p n) (slice_index q n)

-- coefficient n of the product
abbrev pub product_at : Order → List ℕ → List ℕ → ℕ → ℕ
product_at o p q n = sum_to o (suc n) (λ i. mul_of o (slice_index p i) (slice_index q (n - i)))

abbrev pub IsProduct : Order → List ℕ → List ℕ → List ℕ → Type 0
IsProduct o p q r = (n : ℕ) → slice_index r n ≡ product_at o p q n

-- r is the n-th power of p
abbrev pub IsPower : Order → List ℕ → ℕ → List ℕ → Type 0
IsPower o p zero r = (n : ℕ) → slice_index r n ≡ slice_index (1 ∷ []) n
IsPower o p (suc n) r = (w : List ℕ) × AllElements o w × IsPower o p n w × IsProduct o w p r

-- p is monic of degree n
abbrev pub IsMonic : List ℕ → ℕ → Type 0
IsMonic p n = (length p ≡ suc n) × (slice_index p n ≡ 1)

-- p is monic of degree 1 or more
abbrev pub IsMember : Order → List ℕ → Type 0
IsMember o p = AllElements o p × ((n : ℕ) × (1 ≤ n) × IsMonic p n)

-- ---- divisors

abbrev pub Divides : Order → List ℕ → List ℕ → Type 0
Divides o d p = (q : List ℕ) × AllElements o q × IsProduct o q d p

-- every common divisor is a constant
abbrev pub IsCoprime : Order → List ℕ → List ℕ → Type 0
IsCoprime o p q =
    (d : List ℕ) → AllElements o d → Divides o d p → Divides o d q → (n : ℕ) → 1 ≤ n → slice_index d n ≡ 0

-- a divisor of b divides both p and r, or neither
abbrev pub HaveSameDivisors : Order → List ℕ → List ℕ → List ℕ → Type 0
HaveSameDivisors o b p r = (d : List ℕ) → AllElements o d → Divides o d b → Divides o d p ↔ Divides o d r

-- a is b times the quotient, and a remainder shorter than b
pub record IsDivision (o : Order) (a b quotient remainder : List ℕ) : Type 0 where
  pub sum : (n : ℕ) → slice_index a n ≡ add_of o (product_at o b quotient n) (slice_index remainder n)
  pub short : length remainder < length b

-- d is the monic greatest common divisor of a and b: left * a + right * b, and it divides both
pub record IsGreatest (o : Order) (a b left right d : List ℕ) : Type 0 where
  pub monic : (n : ℕ) × IsMonic d n
  pub sum : (n : ℕ) → slice_index d n ≡ add_of o (product_at o left a n) (product_at o right b n)
  pub first : Divides o d a
  pub second : Divides o d b
