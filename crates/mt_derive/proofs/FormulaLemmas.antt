-- A whole system by a formula for its digits.
use Rattle.std.proofs.Common.{◌≡◌, ℕ, zero, suc, ◌*◌, ◌/◌, ◌%◌, ◌<◌, ◌≤◌, ◌==◌, Bool, true, false, cond, List, [], ◌∷◌, length, slice_index, refl, arith}
use Rattle.mt_linear.specs.declared.order.Order.{Order}
use Rattle.mt_linear.specs.Field.{number_of}
use Rattle.mt_linear.specs.Linear.{AllElements}
use Rattle.mt_linear.proofs.FieldLaws.{number_pos, one_below}
use Rattle.mt_system.specs.Rows.{Matrices}
use Rattle.mt_system.specs.Digits.{unit, HasDigits}
use Rattle.mt_system.proofs.MakeLemmas.{digits_from_items}
use Rattle.mt_derive.specs.Systems.{IsWhole}

-- ---- lists by a formula

-- f 0, .., f (n - 1)
abbrev pub listed : ℕ → (ℕ → ℕ) → List ℕ
listed zero f = []
listed (suc n) f = f 0 ∷ listed n (λ k. f (suc k))

pub length_listed : (n : ℕ) (f : ℕ → ℕ) → length (listed n f) ≡ n
length_listed zero f = refl
length_listed (suc n) f = let e : length (listed n (λ k. f (suc k))) ≡ n = length_listed n (λ k. f (suc k)) in omega (arith, e)

pub listed_at : (n : ℕ) (f : ℕ → ℕ) (k : ℕ) → k < n → slice_index (listed n f) k ≡ f k
listed_at zero f k h = absurd (omega arith)
listed_at (suc n) f zero h = refl
listed_at (suc n) f (suc k) h = listed_at n (λ i. f (suc i)) k (omega arith)

pub listed_in : (o : Order) (n : ℕ) (f : ℕ → ℕ) → ((k : ℕ) → f k < number_of o) → AllElements o (listed n f)
listed_in o zero f h k = number_pos o
listed_in o (suc n) f h zero = h 0
listed_in o (suc n) f h (suc k) = listed_in o n (λ i. f (suc i)) (λ i. h (suc i)) k

-- ---- elements

pub cond_in : (b : Bool) (x y n : ℕ) → x < n → y < n → cond b x y < n
cond_in true x y n h g = h
cond_in false x y n h g = g

-- of two rows
pub cond_at : (b : Bool) (x y : ℕ → ℕ) (c n : ℕ) → x c < n → y c < n → cond b x y c < n
cond_at true x y c n h g = h
cond_at false x y c n h g = g

pub unit_in : (o : Order) (n c : ℕ) → unit n c < number_of o
unit_in o n c = cond_in (c == n) 1 0 (number_of o) (one_below o) (number_pos o)

-- ---- systems

-- the sizes of a system
abbrev pub AreSizes : ℕ → ℕ → ℕ → Type 0
AreSizes m s d = (1 ≤ m) × (m ≤ 255) × (1 ≤ s) × (s ≤ 255) × (1 ≤ d) × (d ≤ 255)

-- a formula whose values are elements gives the digits of a whole system
pub whole_from_digits : (o : Order) (m s d : ℕ) (f : ℕ → ℕ → ℕ → ℕ) → AreSizes m s d → ((i j c : ℕ) → f i j c < number_of o)
    → (a : Matrices) × IsWhole a × HasDigits a o m s d f
whole_from_digits o m s d f z h = (
  record { order = o; columns = m; coordinates = s; depth = d; digits = items },
  record {
    columns_from = z.0;
    columns_to = z.1;
    coordinates_from = z.2;
    coordinates_to = z.3;
    depth_from = z.4;
    depth_to = z.5;
    size = length_listed (s * d * m) (λ k. f (k / m / d) (k / m % d) (k % m));
    elements = listed_in o (s * d * m) (λ k. f (k / m / d) (k / m % d) (k % m)) (λ k. h (k / m / d) (k / m % d) (k % m));
  },
  digits_from_items o m s d items f (listed_at (s * d * m) (λ k. f (k / m / d) (k / m % d) (k % m))),
)
  where
    items : List ℕ
    items = listed (s * d * m) (λ k. f (k / m / d) (k / m % d) (k % m))
