-- Lists of coefficients: one more, and what stands past their ends.
use Rattle.std.proofs.Common.{◌≡◌, ◌≢◌, inl, inr, ℕ, zero, suc, ◌+◌, ◌-◌, ◌<◌, ◌≤◌, List, [], ◌∷◌, ◌++◌, length, get_or, take, replicate, refl, sym, ap, ap₂, ◌∙◌, subst, arith}
use Rattle.std.proofs.lemmas.Bool.{cases_eq, cases_lt}
use Rattle.std.proofs.lemmas.List.{get_or_append_left, get_or_past, get_or_push, get_or-replicate, get_or-take, length_push, length-replicate, length-take}
use Rattle.mt_linear.specs.declared.order.Order.{Order}
use Rattle.mt_linear.specs.Field.{number_of, add_of, mul_of}
use Rattle.mt_linear.specs.Linear.{AllElements}
use Rattle.mt_linear.proofs.FieldLaws.{number_pos, mul_zero}
use Rattle.mt_linear.proofs.Combination.{zero_mul, zero_add_zero}
use Rattle.mt_poly.specs.Polynomials.{IsPolynomial, sum_to, product_at}

pub push_elements : (o : Order) (xs : List ℕ) (y : ℕ) → AllElements o xs → y < number_of o → AllElements o (xs ++ y ∷ [])
push_elements o xs y h l k = elim (cases_lt k (length xs)) [
  | inl q ↦ subst (λ z. z < number_of o) (sym (get_or_append_left xs (y ∷ []) 0 k q)) (h k)
  | inr q ↦ elim (cases_eq (length xs) k) [
    | inl e ↦ subst (λ z. z < number_of o) (sym (get_or_push xs y 0 k e)) l
    | inr ne ↦ subst (λ z. z < number_of o) (sym (get_or_past (xs ++ y ∷ []) k 0 (omega (arith, length_push xs y)))) (number_pos o)
  ]
]

pub take_elements : (o : Order) (n : ℕ) (xs : List ℕ) → AllElements o xs → AllElements o (take n xs)
take_elements o n xs h k = elim (cases_lt k n) [
  | inl l ↦ subst (λ z. z < number_of o) (sym (get_or-take n xs k 0 l)) (h k)
  | inr l ↦ subst (λ z. z < number_of o) (sym (get_or_past (take n xs) k 0 (omega (arith, length-take n xs)))) (number_pos o)
]

-- without zeros at its end a list reads the same, and is a polynomial
pub take_trimmed : (n : ℕ) (xs : List ℕ) → ((i : ℕ) → n ≤ i → get_or xs i 0 ≡ 0) → (k : ℕ) → get_or (take n xs) k 0 ≡ get_or xs k 0
take_trimmed n xs zeros k = elim (cases_lt k n) [
  | inl l ↦ get_or-take n xs k 0 l
  | inr l ↦ get_or_past (take n xs) k 0 (omega (arith, length-take n xs)) ∙ sym (zeros k l)
]

pub polynomial_trimmed : (o : Order) (n : ℕ) (xs : List ℕ) → AllElements o xs → ((i : ℕ) → n ≤ i → get_or xs i 0 ≡ 0) → (0 < n → get_or xs (n - 1) 0 ≢ 0)
    → n ≤ length xs → IsPolynomial o (take n xs)
polynomial_trimmed o n xs h zeros lead l = record {
  elements = take_elements o n xs h;
  lead = λ g z.
      let size : length (take n xs) ≡ n = omega (arith, length-take n xs) in
      lead (omega arith) (sym (take_trimmed n xs zeros (n - 1)) ∙ ap (λ k. get_or (take n xs) k 0) {x = n - 1} {y = length (take n xs) - 1} (omega arith) ∙ z);
}

pub zeros : (n k : ℕ) → get_or {A = ℕ} (replicate n 0) k 0 ≡ 0
zeros n k = elim (cases_lt k n) [ inl l ↦ get_or-replicate n k 0 0 l | inr l ↦ get_or_past (replicate n 0) k 0 (omega (arith, length-replicate {A = ℕ} n 0)) ]

-- the values at all places, where they are zero past the list's length
pub whole : (xs : List ℕ) (n : ℕ) (f : ℕ → ℕ) → length xs ≡ n → ((k : ℕ) → k < n → get_or xs k 0 ≡ f k) → ((k : ℕ) → n ≤ k → f k ≡ 0)
    → (k : ℕ) → get_or xs k 0 ≡ f k
whole xs n f size done past k = elim (cases_lt k n) [
  | inl l ↦ done k l
  | inr l ↦ get_or_past xs k 0 (omega arith) ∙ sym (past k l)
]

pub multiple_past : (o : Order) (p q : List ℕ) (c k : ℕ) → length p ≤ k → length q ≤ k → add_of o (get_or p k 0) (mul_of o c (get_or q k 0)) ≡ 0
multiple_past o p q c k l m =
    ap₂ (λ x y. add_of o x (mul_of o c y)) (get_or_past p k 0 l) (get_or_past q k 0 m)
    ∙ ap (add_of o 0) (mul_zero o c) ∙ zero_add_zero o

pub sum_to_zero : (o : Order) (n : ℕ) (f : ℕ → ℕ) → ((i : ℕ) → i < n → f i ≡ 0) → sum_to o n f ≡ 0
sum_to_zero o zero f h = refl
sum_to_zero o (suc n) f h = ap₂ (add_of o) (sum_to_zero o n f (λ i l. h i (omega arith))) (h n (omega arith)) ∙ zero_add_zero o

pub product_past : (o : Order) (p q : List ℕ) (n : ℕ) → length p + length q ≤ n → product_at o p q n ≡ 0
product_past o p q n h = sum_to_zero o (suc n) _ (λ i l. elim (cases_lt i (length p)) [
  | inl g ↦ ap (mul_of o (get_or p i 0)) (get_or_past q (n - i) 0 (omega arith)) ∙ mul_zero o _
  | inr g ↦ ap (λ x. mul_of o x (get_or q (n - i) 0)) (get_or_past p i 0 g) ∙ zero_mul o _
])

-- a polynomial ends where its coefficients do
pub length_top : (o : Order) (p : List ℕ) (n : ℕ) → IsPolynomial o p → get_or p n 0 ≢ 0 → ((i : ℕ) → n < i → get_or p i 0 ≡ 0) → length p ≡ suc n
length_top o p n is here above = elim (cases_lt n (length p)) [
  | inl l ↦ elim (cases_eq (length p) (suc n)) [
    | inl e ↦ e
    | inr ne ↦ absurd (is.lead (omega arith) (above (length p - 1) (omega arith)))
  ]
  | inr l ↦ absurd (here (get_or_past p n 0 l))
]
