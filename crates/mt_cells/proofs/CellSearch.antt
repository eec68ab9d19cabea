-- The cell of a number.
use Rattle.std.proofs.Common.{◌≡◌, ℕ, suc, ◌+◌, ◌-◌, ◌*◌, ◌/◌, ◌%◌, ◌<◌, ◌≤◌, inl, inr, ap, ◌∙◌, arith}
use Rattle.std.proofs.lemmas.Bool.{cases_lt}
use Rattle.mt_linear.specs.declared.order.Order.{Order}
use Rattle.mt_cells.specs.declared.bounds.Bounds.{Bounds}
use Rattle.mt_cells.specs.declared.cells.Cell.TheVariants.{Ooa, Seq}
use Rattle.mt_cells.specs.Cells.{index_of, triangle, arrays_of, per_order_of, number}
use Rattle.mt_cells.proofs.Triangles.{triangle-suc}

-- the search for m among the arrays of one order
pub search_m : (S M m rest n : ℕ) → m ≤ M → S * m ≤ rest → rest + S * triangle m ≡ n → n < S * triangle (M + 1) → (m + 1 ≤ M) × (rest - S * m + S * triangle (m + 1) ≡ n)
search_m S M m rest n h k e l =
    let t : S * triangle (suc m) ≡ S * triangle m + S * m = ap (λ w. S * w) (triangle-suc m) ∙ omega arith in
    let u : S * triangle (m + 1) ≡ S * triangle (suc m) = ap (λ w. S * triangle w) (omega arith) in (
      elim (cases_lt m M) [
        | inl p ↦ omega arith
        | inr p ↦ absurd (let v : S * triangle (M + 1) ≡ S * triangle (suc m) = ap (λ w. S * triangle w) (omega arith) in omega arith)
      ],
      omega arith,
    )

-- the row and the place in it
split : (n d : ℕ) → 1 ≤ d → (n / d + 1 - 1) * d + (n % d + 1 - 1) ≡ n
split n d h =
    let prefix : (n / d + 1 - 1) * d ≡ n / d * d = ap (λ w. w * d) (omega arith) in
    let turned : d * (n / d) ≡ n / d * d = omega arith in
    let whole : d * (n / d) + n % d ≡ n = omega arith in
    omega arith

pub array_found : (b : Bounds) (o : Order) (m rest before : ℕ) → 1 ≤ m → rest + b.s_max * triangle m ≡ before
    → number b (Ooa o m (rest / m + 1) (rest % m + 1)) ≡ index_of o * per_order_of b + before
unfolding number
array_found b o m rest before h e = let parts = split rest m h in omega arith

pub sequence_found : (b : Bounds) (o : Order) (before : ℕ)
    → number b (Seq o (before / b.s_max + 1) (before % b.s_max + 1)) ≡ index_of o * per_order_of b + (arrays_of b + before)
unfolding number
sequence_found b o before = let parts = split before b.s_max b.s_low in omega arith
