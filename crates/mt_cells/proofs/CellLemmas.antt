-- The numbers of cells: below the number of cells, apart, and in the order of the cells.
use Rattle.std.proofs.Common.{◌≡◌, ℕ, zero, suc, ◌+◌, ◌-◌, ◌*◌, ◌/◌, ◌<◌, ◌≤◌, ◌⊎◌, inl, inr, refl, sym, ap, ap₂, ◌∙◌, arith}
use Rattle.std.proofs.Math.Nat.{mul-le-mul_right, mul-le-mul_left}
use Rattle.std.proofs.lemmas.Bool.{cases_lt}
use Rattle.std.proofs.lemmas.Nat.{mul-le}
use Rattle.mt_linear.specs.declared.order.Order.{Order}
use Rattle.mt_linear.specs.declared.order.Order.TheVariants.{Q2, Q3, Q4, Q5, Q7, Q8, Q9}
use Rattle.mt_linear.specs.Field.{number_of}
use Rattle.mt_cells.specs.declared.bounds.Bounds.{Bounds}
use Rattle.mt_cells.specs.declared.bounds.TheConstants.{MOST_COLUMNS, MOST_COORDINATES, MOST_ARRAYS, MOST_CELLS}
use Rattle.mt_cells.specs.declared.cells.Cell.{Cell}
use Rattle.mt_cells.specs.declared.cells.Cell.TheVariants.{Ooa, Seq}
use Rattle.mt_cells.specs.Cells.{InBounds, order_of, Before, index_of, triangle, arrays_of, per_order_of, cells_of, number}
use Rattle.mt_cells.proofs.Triangles.{triangle-suc, triangle_half, triangle_le}

-- a greater first digit outweighs the rest
pub radix_lt : (n a x b : ℕ) → x < n → a < b → a * n + x < b * n
radix_lt n a x b h k =
    let p : (a + 1) * n ≤ b * n = mul-le-mul_right n (omega arith) in
    let q : (a + 1) * n ≡ a * n + n = omega arith in
    omega arith

lines_lt : (S m x n : ℕ) → x < S * m → m < n → S * triangle m + x < S * triangle n
lines_lt S m x n h k =
    let r : S * triangle (suc m) ≤ S * triangle n = mul-le-mul_left S (triangle_le (suc m) n (omega arith)) in
    let t : S * triangle (suc m) ≡ S * triangle m + S * m = ap (λ w. S * w) (triangle-suc m) ∙ omega arith in
    omega arith

-- ---- orders

index_below : (o : Order) → index_of o < 7
index_below Q2 = omega arith
index_below Q3 = omega arith
index_below Q4 = omega arith
index_below Q5 = omega arith
index_below Q7 = omega arith
index_below Q8 = omega arith
index_below Q9 = omega arith

-- 6 is no order
number_of-index : (o : Order) → number_of o ≡ index_of o + 2 + index_of o / 4
number_of-index Q2 = refl
number_of-index Q3 = refl
number_of-index Q4 = refl
number_of-index Q5 = refl
number_of-index Q7 = refl
number_of-index Q8 = refl
number_of-index Q9 = refl

index_lt : (o p : Order) → number_of o < number_of p → index_of o < index_of p
index_lt o p h = omega (arith, number_of-index o, number_of-index p)

index_le : (o p : Order) → number_of o ≤ number_of p → index_of o ≤ index_of p
index_le o p h = omega (arith, number_of-index o, number_of-index p)

abbrev order_from : ℕ → Order
order_from zero = Q2
order_from (suc zero) = Q3
order_from (suc (suc zero)) = Q4
order_from (suc (suc (suc zero))) = Q5
order_from (suc (suc (suc (suc zero)))) = Q7
order_from (suc (suc (suc (suc (suc zero))))) = Q8
order_from (suc (suc (suc (suc (suc (suc n)))))) = Q9

order_back : (o : Order) → order_from (index_of o) ≡ o
order_back Q2 = refl
order_back Q3 = refl
order_back Q4 = refl
order_back Q5 = refl
order_back Q7 = refl
order_back Q8 = refl
order_back Q9 = refl

pub order_same : (o p : Order) → number_of o ≡ number_of p → o ≡ p
order_same o p e =
    let same : index_of o ≡ index_of p = omega (arith, number_of-index o, number_of-index p) in
    sym (order_back o) ∙ ap order_from same ∙ order_back p

-- ---- the number of a cell among those of its order

abbrev inner : Bounds → Cell → ℕ
inner b (Ooa o m s d) = b.s_max * triangle m + ((s - 1) * m + (d - 1))
inner b (Seq o m s) = arrays_of b + ((m - 1) * b.s_max + (s - 1))

number_is : (b : Bounds) (c : Cell) → number b c ≡ index_of (order_of c) * per_order_of b + inner b c
unfolding number
number_is b (Ooa o m s d) = refl
number_is b (Seq o m s) = refl

array_lt : (S m s d n : ℕ) → 1 ≤ s → s ≤ S → 1 ≤ d → d ≤ m → m < n → S * triangle m + ((s - 1) * m + (d - 1)) < S * triangle n
array_lt S m s d n s_low s_high d_low d_high l =
    lines_lt S m ((s - 1) * m + (d - 1)) n (radix_lt m (s - 1) (d - 1) S (omega arith) (omega arith)) l

inner_below : (b : Bounds) (c : Cell) → InBounds b c → inner b c < per_order_of b
inner_below b (Ooa o m s d) h =
    let l : b.s_max * triangle m + ((s - 1) * m + (d - 1)) < b.s_max * triangle (b.m_max + 1) = array_lt b.s_max m s d (b.m_max + 1) h.2 h.3 h.4 h.5 (omega arith) in
    omega arith
inner_below b (Seq o m s) h =
    let l : (m - 1) * b.s_max + (s - 1) < b.m_max * b.s_max = radix_lt b.s_max (m - 1) (s - 1) b.m_max (omega arith) (omega arith) in
    omega arith

pub number_below : (b : Bounds) (c : Cell) → InBounds b c → number b c < cells_of b
number_below b c h = rw (number_is b c) (radix_lt (per_order_of b) (index_of (order_of c)) (inner b c) 7 (inner_below b c h) (index_below (order_of c)))

pub cells_high : (b : Bounds) → cells_of b ≤ MOST_CELLS
cells_high b =
    let m_high = b.m_high in
    let sum : MOST_COLUMNS * (MOST_COLUMNS + 1) / 2 ≡ triangle (MOST_COLUMNS + 1) = triangle_half (MOST_COLUMNS + 1) (omega arith) in
    let most : triangle (b.m_max + 1) ≤ triangle (MOST_COLUMNS + 1) = triangle_le (b.m_max + 1) (MOST_COLUMNS + 1) (omega arith) in
    let arrays : b.s_max * triangle (b.m_max + 1) ≤ MOST_ARRAYS = mul-le b.s_max (triangle (b.m_max + 1)) MOST_COORDINATES (MOST_COLUMNS * (MOST_COLUMNS + 1) / 2) b.s_high (omega arith) in
    let sequences : b.m_max * b.s_max ≤ MOST_COLUMNS * MOST_COORDINATES = mul-le b.m_max b.s_max MOST_COLUMNS MOST_COORDINATES m_high b.s_high in
    omega arith

-- ---- the numbers go up with the order of cells

arrays_ordered : (S m s d n t e : ℕ) → 1 ≤ s → s ≤ S → 1 ≤ d → d ≤ m → 1 ≤ t → 1 ≤ e
    → (m < n) ⊎ ((m ≡ n) × ((s < t) ⊎ ((s ≡ t) × (d < e))))
    → S * triangle m + ((s - 1) * m + (d - 1)) < S * triangle n + ((t - 1) * n + (e - 1))
arrays_ordered S m s d n t e s_low s_high d_low d_high t_low e_low (inl l) =
    let far : S * triangle m + ((s - 1) * m + (d - 1)) < S * triangle n = array_lt S m s d n s_low s_high d_low d_high l in
    omega arith
arrays_ordered S m s d n t e s_low s_high d_low d_high t_low e_low (inr (same, rest)) =
    let base : S * triangle m ≡ S * triangle n = ap (λ k. S * triangle k) same in
    elim rest [
      | inl l ↦
          let row : (s - 1) * m + (d - 1) < (t - 1) * m = radix_lt m (s - 1) (d - 1) (t - 1) (omega arith) (omega arith) in
          let moved : (t - 1) * m ≡ (t - 1) * n = ap (λ k. (t - 1) * k) same in
          omega arith
      | inr (level, l) ↦
          let moved : (s - 1) * m ≡ (t - 1) * n = ap₂ (λ x k. (x - 1) * k) level same in
          omega arith
    ]

sequences_ordered : (S m s n t : ℕ) → 1 ≤ m → 1 ≤ s → s ≤ S → 1 ≤ t → (m < n) ⊎ ((m ≡ n) × (s < t)) → (m - 1) * S + (s - 1) < (n - 1) * S + (t - 1)
sequences_ordered S m s n t m_low s_low s_high t_low (inl l) =
    let far : (m - 1) * S + (s - 1) < (n - 1) * S = radix_lt S (m - 1) (s - 1) (n - 1) (omega arith) (omega arith) in
    omega arith
sequences_ordered S m s n t m_low s_low s_high t_low (inr (same, l)) =
    let moved : (m - 1) * S ≡ (n - 1) * S = ap (λ k. (k - 1) * S) same in
    omega arith

abbrev LaterPlace : ℕ → ℕ → ℕ → ℕ → Type 0
LaterPlace o p x y = (o < p) ⊎ ((o ≡ p) × (x < y))

later : (b : Bounds) (c d : Cell) → InBounds b c → InBounds b d → Before c d → LaterPlace (index_of (order_of c)) (index_of (order_of d)) (inner b c) (inner b d)
later b (Ooa o m s d) (Ooa p n t e) h k (inl l) = inl (index_lt o p l)
later b (Ooa o m s d) (Ooa p n t e) h k (inr (same, rest)) = inr (ap index_of same, arrays_ordered b.s_max m s d n t e h.2 h.3 h.4 h.5 k.2 k.4 rest)
later b (Ooa o m s d) (Seq p n t) h k l = elim (cases_lt (index_of o) (index_of p)) [
  | inl less ↦ inl less
  | inr most ↦ inr (let le = index_le o p l in omega arith, let x = array_lt b.s_max m s d (b.m_max + 1) h.2 h.3 h.4 h.5 (omega arith) in omega arith)
]
later b (Seq o m s) (Ooa p n t e) h k l = inl (index_lt o p l)
later b (Seq o m s) (Seq p n t) h k (inl l) = inl (index_lt o p l)
later b (Seq o m s) (Seq p n t) h k (inr (same, rest)) = inr (ap index_of same, let l = sequences_ordered b.s_max m s n t h.0 h.2 h.3 k.2 rest in omega arith)

later_lt : (n o p x y : ℕ) → x < n → LaterPlace o p x y → o * n + x < p * n + y
later_lt n o p x y h (inl l) = let far : o * n + x < p * n = radix_lt n o x p h l in omega arith
later_lt n o p x y h (inr (same, l)) = let moved : o * n ≡ p * n = ap (λ k. k * n) same in omega arith

pub number_ordered : (b : Bounds) (c d : Cell) → InBounds b c → InBounds b d → Before c d → number b c < number b d
number_ordered b c d h k l =
    let less : index_of (order_of c) * per_order_of b + inner b c < index_of (order_of d) * per_order_of b + inner b d =
    later_lt (per_order_of b) (index_of (order_of c)) (index_of (order_of d)) (inner b c) (inner b d) (inner_below b c h) (later b c d h k l) in
    rw (number_is b c, number_is b d) less

-- ---- of two cells one is before the other, or they are the same

either : (a b : ℕ) → (a ≡ b) ⊎ ((a < b) ⊎ (b < a))
either a b = elim (cases_lt a b) [
  | inl l ↦ inr (inl l)
  | inr l ↦ elim (cases_lt b a) [ inl m ↦ inr (inr m) | inr m ↦ inl (omega arith) ]
]

-- two numbers decide, and where they are equal the rest does
digit : {E X Y : Type 0} (a b : ℕ) → E ⊎ (X ⊎ Y) → ((a ≡ b) × E) ⊎ (((a < b) ⊎ ((a ≡ b) × X)) ⊎ ((b < a) ⊎ ((b ≡ a) × Y)))
digit a b rest = elim (either a b) [
  | inl e ↦ elim rest [
    | inl same ↦ inl (e, same)
    | inr other ↦ elim other [ inl x ↦ inr (inl (inr (e, x))) | inr y ↦ inr (inr (inr (sym e, y))) ]
  ]
  | inr other ↦ elim other [ inl l ↦ inr (inl (inl l)) | inr l ↦ inr (inr (inl l)) ]
]

order_digit : {E X Y : Type 0} (o p : Order) → E ⊎ (X ⊎ Y) → ((o ≡ p) × E) ⊎ (((number_of o < number_of p) ⊎ ((o ≡ p) × X)) ⊎ ((number_of p < number_of o) ⊎ ((p ≡ o) × Y)))
order_digit o p rest = elim (digit (number_of o) (number_of p) rest) [
  | inl same ↦ inl (order_same o p same.0, same.1)
  | inr other ↦ inr (elim other [
    | inl x ↦ inl (elim x [ inl l ↦ inl l | inr q ↦ inr (order_same o p q.0, q.1) ])
    | inr y ↦ inr (elim y [ inl l ↦ inl l | inr q ↦ inr (order_same p o q.0, q.1) ])
  ])
]

pub before_total : (c d : Cell) → (c ≡ d) ⊎ (Before c d ⊎ Before d c)
before_total (Ooa o m s d) (Ooa p n t e) = elim (order_digit o p (digit m n (digit s t (either d e)))) [ inl same ↦ inl cc | inr other ↦ inr other ]
before_total (Ooa o m s d) (Seq p n t) = elim (cases_lt (number_of p) (number_of o)) [ inl l ↦ inr (inr l) | inr l ↦ inr (inl l) ]
before_total (Seq o m s) (Ooa p n t e) = elim (cases_lt (number_of o) (number_of p)) [ inl l ↦ inr (inl l) | inr l ↦ inr (inr l) ]
before_total (Seq o m s) (Seq p n t) = elim (order_digit o p (digit m n (either s t))) [ inl same ↦ inl cc | inr other ↦ inr other ]

pub number_apart : (b : Bounds) (c d : Cell) → InBounds b c → InBounds b d → number b c ≡ number b d → c ≡ d
number_apart b c d h k e = elim (before_total c d) [
  | inl same ↦ same
  | inr other ↦ absurd (elim other [
    | inl l ↦ let less = number_ordered b c d h k l in omega arith
    | inr l ↦ let less = number_ordered b d c k h l in omega arith
  ])
]
