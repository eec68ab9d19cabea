-- Lists of digits and their numbers.
use Rattle.std.proofs.Common.{◌≡◌, ◌≢◌, inl, inr, ℕ, zero, suc, ◌+◌, ◌-◌, ◌*◌, ◌/◌, ◌%◌, ◌^◌, ◌<◌, ◌≤◌, List, [], ◌∷◌, ◌++◌, length, get_or, set, refl, sym, ap, ◌∙◌, arith}
use Rattle.std.proofs.Math.Nat.{pow-zero, pow-suc, mul-le-mul_left, div-add-mod}
use Rattle.std.proofs.lemmas.Bool.{cases_eq}
use Rattle.std.proofs.lemmas.List.{get_or_push, length_push}
use Rattle.std.proofs.lemmas.Nat.{same_from_place}
use Rattle.mt_poly.specs.CoprimeLists.{number_by}

-- one digit lower, everything is q times as much
set_step : (q x s n a y p : ℕ) → s + a * p ≡ n + y * p → x + q * s + a * (p * q) ≡ x + q * n + y * (p * q)
set_step q x s n a y p e = let f : q * (s + a * p) ≡ q * (n + y * p) = ap (λ z. q * z) e in omega arith

number_set : (q : ℕ) (xs : List ℕ) (i y : ℕ) → i < length xs → number_by q (set xs i y) + get_or xs i 0 * q ^ i ≡ number_by q xs + y * q ^ i
number_set q [] i y h = absurd (omega arith)
number_set q (x ∷ xs) zero y h = omega (arith, ap (λ z. y * z) (pow-zero q), ap (λ z. x * z) (pow-zero q))
number_set q (x ∷ xs) (suc i) y h =
    rw pow-suc (set_step q x (number_by q (set xs i y)) (number_by q xs) (get_or xs i 0) y (q ^ i) (number_set q xs i y (omega arith)))

push_step : (q x s n y p : ℕ) → s ≡ n + y * p → x + q * s ≡ x + q * n + y * (p * q)
push_step q x s n y p e = let f : q * s ≡ q * (n + y * p) = ap (λ z. q * z) e in omega arith

pub number_push : (q : ℕ) (xs : List ℕ) (y : ℕ) → number_by q (xs ++ y ∷ []) ≡ number_by q xs + y * q ^ length xs
number_push q [] y = omega (arith, ap (λ z. y * z) (pow-zero q))
number_push q (x ∷ xs) y =
    rw pow-suc (push_step q x (number_by q (xs ++ y ∷ [])) (number_by q xs) y (q ^ length xs) (number_push q xs y))

-- ---- counting up

pub carry_step : (q : ℕ) (xs : List ℕ) (i y t : ℕ) → i < length xs → number_by q xs + q ^ i ≡ t → y ≡ get_or xs i 0 → y + 1 ≡ q
    → number_by q (set xs i 0) + q ^ (i + 1) ≡ t
carry_step q xs i y t l e r f =
    let power : q ^ (i + 1) ≡ q ^ i * q = ap (λ k. q ^ k) {x = i + 1} {y = suc i} (omega arith) ∙ pow-suc q i in
    let more : q ^ i * q ≡ q ^ i * (y + 1) = ap (λ z. q ^ i * z) (sym f) in
    let same : y * q ^ i ≡ get_or xs i 0 * q ^ i = ap (λ z. z * q ^ i) r in
    omega (arith, number_set q xs i 0 l)

pub count_step : (q : ℕ) (xs : List ℕ) (i y t : ℕ) → i < length xs → number_by q xs + q ^ i ≡ t → y ≡ get_or xs i 0 → number_by q (set xs i (y + 1)) ≡ t
count_step q xs i y t l e r =
    let same : y * q ^ i ≡ get_or xs i 0 * q ^ i = ap (λ z. z * q ^ i) r in
    omega (arith, number_set q xs i (y + 1) l)

-- one digit more of n, whose other digits make `rest`
pub digit_step : (q : ℕ) (xs : List ℕ) (rest n : ℕ) → number_by q xs + q ^ length xs * rest ≡ n
    → number_by q (xs ++ rest % q ∷ []) + q ^ length (xs ++ rest % q ∷ []) * (rest / q) ≡ n
digit_step q xs rest n e =
    let power : q ^ length (xs ++ rest % q ∷ []) ≡ q ^ length xs * q =
    ap (λ k. q ^ k) {x = length (xs ++ rest % q ∷ [])} {y = suc (length xs)} (omega (arith, length_push xs (rest % q))) ∙ pow-suc q (length xs) in
    let split : q ^ length xs * (q * (rest / q) + rest % q) ≡ q ^ length xs * rest = ap (λ z. q ^ length xs * z) (div-add-mod rest q) in
    let high : q ^ length (xs ++ rest % q ∷ []) * (rest / q) ≡ q ^ length xs * q * (rest / q) = ap (λ z. z * (rest / q)) power in
    omega (arith, number_push q xs (rest % q))

-- the last digit is not zero
pub digit_lead : (q : ℕ) (xs : List ℕ) (rest : ℕ) → 0 < rest → rest / q ≡ 0
    → get_or (xs ++ rest % q ∷ []) (length (xs ++ rest % q ∷ []) - 1) 0 ≢ 0
digit_lead q xs rest l e z =
    let none : q * (rest / q) ≡ q * 0 = ap (λ k. q * k) e in
    let here : get_or (xs ++ rest % q ∷ []) (length (xs ++ rest % q ∷ []) - 1) 0 ≡ rest % q =
    get_or_push xs (rest % q) 0 (length (xs ++ rest % q ∷ []) - 1) (omega (arith, length_push xs (rest % q))) in
    omega (arith, div-add-mod rest q)

-- a product that is zero
factor_zero : (q n : ℕ) → 0 < q → q * n ≡ 0 → n ≡ 0
factor_zero q n l e = omega (arith, mul-le-mul_left n l)

number_zero : (q : ℕ) (p : List ℕ) → 0 < q → number_by q p ≡ 0 → (i : ℕ) → get_or p i 0 ≡ 0
number_zero q [] l e i = refl
number_zero q (x ∷ p) l e zero = omega arith
number_zero q (x ∷ p) l e (suc i) = number_zero q p l (factor_zero q (number_by q p) l (omega arith)) i

-- digits are determined by their number
pub number_same : (q : ℕ) (p r : List ℕ) → 0 < q → ((i : ℕ) → get_or p i 0 < q) → ((i : ℕ) → get_or r i 0 < q) → number_by q p ≡ number_by q r
    → (i : ℕ) → get_or p i 0 ≡ get_or r i 0
number_same q [] r l hp hr e i = sym (number_zero q r l (sym e) i)
number_same q (x ∷ p) [] l hp hr e i = number_zero q (x ∷ p) l e i
number_same q (x ∷ p) (y ∷ r) l hp hr e zero = (same_from_place (number_by q p) x (number_by q r) y q (hp 0) (hr 0) (omega arith)).1
number_same q (x ∷ p) (y ∷ r) l hp hr e (suc i) =
    number_same q p r l (λ k. hp (suc k)) (λ k. hr (suc k))
    (same_from_place (number_by q p) x (number_by q r) y q (hp 0) (hr 0) (omega arith)).0 i

number_pos : (q : ℕ) (p : List ℕ) (n : ℕ) → 0 < q → get_or p n 0 ≢ 0 → 1 ≤ number_by q p
number_pos q p n l h = elim (cases_eq (number_by q p) 0) [
  | inl e ↦ absurd (h (number_zero q p l e n))
  | inr ne ↦ omega arith
]

-- digits that go past the first one make the base or more
pub number_least : (q : ℕ) (p : List ℕ) (n : ℕ) → 0 < q → 1 ≤ n → get_or p n 0 ≢ 0 → q ≤ number_by q p
number_least q [] n l g h = absurd (h refl)
number_least q (x ∷ p) zero l g h = absurd (omega arith)
number_least q (x ∷ p) (suc n) l g h = omega (arith, mul-le-mul_left q (number_pos q p n l h))
