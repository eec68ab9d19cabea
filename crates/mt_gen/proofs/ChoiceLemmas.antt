-- How many choices small systems have.
use Rattle.std.proofs.Common.{◌≡◌, ℕ, zero, suc, ◌+◌, ◌-◌, ◌<◌, ◌≤◌, min, inl, inr, refl, ap, arith}
use Rattle.std.proofs.lemmas.Bool.{cases_lt}
use Rattle.mt_system.specs.Counts.{sum_below, number_of_choices}

sum_below-greater : (n : ℕ) (f g : ℕ → ℕ) → ((d : ℕ) → d < n → f d ≤ g d) → sum_below n f ≤ sum_below n g
sum_below-greater zero f g h = omega arith
sum_below-greater (suc n) f g h = omega (arith, sum_below-greater n f g (λ d l. h d (omega arith)), h n (omega arith))

sum_below-longer : (m n : ℕ) (f : ℕ → ℕ) → m ≤ n → sum_below m f ≤ sum_below n f
sum_below-longer m zero f h = let e : m ≡ 0 = omega arith in omega (arith, ap (λ k. sum_below k f) e)
sum_below-longer m (suc n) f h = elim (cases_lt m (suc n)) [
  | inl l ↦ let r : sum_below m f ≤ sum_below n f = sum_below-longer m n f (omega arith) in omega arith
  | inr l ↦ let e : m ≡ suc n = omega arith in omega (arith, ap (λ k. sum_below k f) e)
]

-- more rows, and larger choices
rows_more : (s c d j k : ℕ) → c ≤ d → j ≤ k → number_of_choices s c j ≤ number_of_choices s d k
rows_more zero c d j k h i = omega arith
rows_more (suc s) c d j k h i =
    let f : ℕ → ℕ = λ e. number_of_choices s c (j - e) in
    let g : ℕ → ℕ = λ e. number_of_choices s d (k - e) in
    let each : sum_below (min c j + 1) f ≤ sum_below (min c j + 1) g =
    sum_below-greater (min c j + 1) f g (λ e l. rows_more s c d (j - e) (k - e) h (omega arith)) in
    let longer : sum_below (min c j + 1) g ≤ sum_below (min d k + 1) g = sum_below-longer (min c j + 1) (min d k + 1) g (omega arith) in
    omega arith

one_coordinate_more : (s d k : ℕ) → number_of_choices s d k ≤ number_of_choices (suc s) d k
one_coordinate_more s d k =
    let g : ℕ → ℕ = λ e. number_of_choices s d (k - e) in
    let first : sum_below 1 g ≤ sum_below (min d k + 1) g = sum_below-longer 1 (min d k + 1) g (omega arith) in
    let e : number_of_choices s d (k - 0) ≡ number_of_choices s d k = ap (number_of_choices s d) (omega arith) in
    omega arith

coordinates_more : (s t d k : ℕ) → s ≤ t → number_of_choices s d k ≤ number_of_choices t d k
coordinates_more s zero d k h = let e : s ≡ 0 = omega arith in omega (arith, ap (λ n. number_of_choices n d k) e)
coordinates_more s (suc t) d k h = elim (cases_lt s (suc t)) [
  | inl l ↦ omega (arith, coordinates_more s t d k (omega arith), one_coordinate_more t d k)
  | inr l ↦ let e : s ≡ suc t = omega arith in omega (arith, ap (λ n. number_of_choices n d k) e)
]

most : number_of_choices 6 8 8 ≡ 3003
most = refl

pub few_choices : (s d k : ℕ) → s ≤ 6 → d ≤ 8 → k ≤ 8 → number_of_choices s d k ≤ 3003
few_choices s d k a b c =
    omega (arith, rows_more s d 8 k 8 b c, coordinates_more s 6 8 8 a, most)
