-- The sum of the numbers below n.
use Rattle.std.proofs.Common.{◌≡◌, ℕ, zero, suc, ◌+◌, ◌-◌, ◌*◌, ◌/◌, ◌≤◌, inl, inr, refl, ap, arith}
use Rattle.std.proofs.lemmas.Bool.{cases_lt}
use Rattle.mt_cells.specs.Cells.{triangle}

pub triangle-suc : (n : ℕ) → triangle (suc n) ≡ triangle n + n
unfolding triangle
triangle-suc n = refl

triangle_double : (n : ℕ) → 2 * triangle (suc n) ≡ (n + 1) * n
unfolding triangle
triangle_double zero = refl
triangle_double (suc n) =
    let h : 2 * triangle (suc n) ≡ (n + 1) * n = triangle_double n in
    let e : (n + 2) * (n + 1) ≡ (n + 1) * n + 2 * (n + 1) = omega arith in
    omega arith

pub triangle_half : (m : ℕ) → 1 ≤ m → m * (m - 1) / 2 ≡ triangle m
triangle_half zero h = absurd (omega arith)
triangle_half (suc n) h =
    let e : 2 * triangle (suc n) ≡ (n + 1) * n = triangle_double n in
    let f0 : suc n - 1 ≡ n = omega arith in
    let f : suc n * (suc n - 1) ≡ suc n * n = ap (λ w. suc n * w) f0 in
    let g : suc n * n ≡ (n + 1) * n = omega arith in
    omega arith

pub triangle_le : (m n : ℕ) → m ≤ n → triangle m ≤ triangle n
unfolding triangle
triangle_le m zero h = let e : m ≡ 0 = omega arith in omega (arith, ap triangle e)
triangle_le m (suc n) h = elim (cases_lt m (suc n)) [
  | inl l ↦ let r : triangle m ≤ triangle n = triangle_le m n (omega arith) in omega arith
  | inr l ↦ let e : m ≡ suc n = omega arith in omega (arith, ap triangle e)
]
