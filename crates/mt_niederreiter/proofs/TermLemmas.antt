-- The terms of an expansion, each by those before it.
use Rattle.std.proofs.Common.{◌≡◌, ℕ, zero, suc, ◌+◌, ◌-◌, ◌<◌, ◌≤◌, ◌==◌, cond, min, List, [], ◌∷◌, ◌++◌, length, slice_index, inl, inr, refl, sym, ap, ap₂, ◌∙◌, subst, arith, take, drop, get_or-take, length-take, length-drop}
use Rattle.std.proofs.lemmas.Bool.{cases_eq, cases_lt, cond-true, cond-false, eq-eqb, ne_eqb}
use Rattle.std.proofs.lemmas.List.{get_or-drop, get_or_append_left, get_or_push, length_push}
use Rattle.mt_linear.specs.declared.order.Order.{Order}
use Rattle.mt_linear.specs.Field.{number_of, add_of, mul_of, neg_of}
use Rattle.mt_linear.specs.Linear.{AllElements}
use Rattle.mt_linear.proofs.FieldLaws.{one_below, number_pos, add_assoc, add_comm, add_neg, add_zero, mul_comm, mul_one}
use Rattle.mt_poly.specs.Polynomials.{sum_to}
use Rattle.mt_niederreiter.specs.Expansions.{Expands, monomial}

-- product k of those that make term l of the product of D, of degree n, and w behind n zeros
abbrev pub part : Order → List ℕ → ℕ → List ℕ → ℕ → ℕ → ℕ
part o D n w l k = mul_of o (slice_index D (n - min l n + k)) (slice_index w (l - min l n + k))

-- the terms of this product are those of x^u, as far as w goes
abbrev pub Begins : Order → List ℕ → ℕ → ℕ → List ℕ → Type 0
Begins o D n u w = (l : ℕ) → l < length w → sum_to o (suc (min l n)) (part o D n w l) ≡ cond (l == n - 1 - u) 1 0

sum_to_same : (o : Order) (n k : ℕ) (f g : ℕ → ℕ) → n ≡ k → ((i : ℕ) → i < n → f i ≡ g i) → sum_to o n f ≡ sum_to o k g
sum_to_same o n k f g e h = go n (λ i l. h i l) ∙ ap (λ j. sum_to o j g) e
  where
    go : (j : ℕ) → ((i : ℕ) → i < j → f i ≡ g i) → sum_to o j f ≡ sum_to o j g
    go zero q = refl
    go (suc j) q = ap₂ (add_of o) (go j (λ i l. q i (omega arith))) (q j (omega arith))

-- from the coefficients just below that of x^n and the terms just before term l
pub sum_of_slices : (o : Order) (D : List ℕ) (n : ℕ) (w : List ℕ) (l i a k b : ℕ) → n < length D → length w ≡ l
    → i ≡ min l n → a ≡ n - min l n → k ≡ min l n → b ≡ l - min l n
    → sum_to o (length (take i (drop a D))) (λ x. mul_of o (slice_index (take i (drop a D)) x) (slice_index (take k (drop b w)) x))
    ≡ sum_to o (min l n) (part o D n w l)
sum_of_slices o D n w l i a k b long size ei ea ek eb =
    sum_to_same o _ (min l n) _ (part o D n w l)
    (length-take i (drop a D) ∙ (let d : length (drop a D) ≡ length D - a = length-drop a D in omega arith))
    (λ x h. ap₂ (mul_of o)
    (get_or-take i (drop a D) x 0 (within x h) ∙ get_or-drop a D x 0 ∙ ap (λ j. slice_index D (j + x)) ea)
    (get_or-take k (drop b w) x 0 (omega (arith, within x h)) ∙ get_or-drop b w x 0 ∙ ap (λ j. slice_index w (j + x)) eb))
  where
    within : (x : ℕ) → x < length (take i (drop a D)) → x < i
    within x h = omega (arith, h, length-take i (drop a D))

-- a sum, and what it lacks
complete : (o : Order) (s a : ℕ) → a < number_of o → add_of o s (add_of o a (neg_of o s)) ≡ a
complete o s a h =
    add_comm o s (add_of o a (neg_of o s))
    ∙ add_assoc o a (neg_of o s) s
    ∙ ap (add_of o a) (add_comm o (neg_of o s) s ∙ add_neg o s)
    ∙ add_zero o a h

start_below : (o : Order) (l k : ℕ) → cond (l == k) 1 0 < number_of o
start_below o l k = elim (cases_eq l k) [
  | inl e ↦ subst (λ y. y < number_of o) (sym (cond-true (l == k) 1 0 (eq-eqb l k e))) (one_below o)
  | inr ne ↦ subst (λ y. y < number_of o) (sym (cond-false (l == k) 1 0 (ne_eqb l k ne))) (number_pos o)
]

-- one term more
pub begins_push : (o : Order) (D : List ℕ) (n u : ℕ) (w : List ℕ) (l s x : ℕ) → slice_index D n ≡ 1 → Begins o D n u w → length w ≡ l
    → s ≡ sum_to o (min l n) (part o D n w l) → x ≡ add_of o (cond (l == n - 1 - u) 1 0) (neg_of o s) → x < number_of o
    → Begins o D n u (w ++ x ∷ [])
begins_push o D n u w l s x lead before size sum is element k h = elim (cases_lt k (length w)) [
  | inl old ↦
      sum_to_same o (suc (min k n)) (suc (min k n)) _ (part o D n w k) refl
      (λ i g. ap (mul_of o (slice_index D (n - min k n + i))) (get_or_append_left w (x ∷ []) 0 (k - min k n + i) (omega arith)))
      ∙ before k old
  | inr new ↦
      let e : k ≡ l = omega (arith, length_push w x) in
      subst (λ j. sum_to o (suc (min j n)) (part o D n (w ++ x ∷ []) j) ≡ cond (j == n - 1 - u) 1 0) (sym e) last
]
  where
    own : part o D n (w ++ x ∷ []) l (min l n) ≡ x
    own =
        ap₂ (mul_of o) (ap (slice_index D) {x = n - min l n + min l n} {y = n} (omega arith) ∙ lead) (get_or_push w x 0 (l - min l n + min l n) (omega arith))
        ∙ mul_comm o 1 x
        ∙ mul_one o x element

    last : sum_to o (suc (min l n)) (part o D n (w ++ x ∷ []) l) ≡ cond (l == n - 1 - u) 1 0
    last =
        ap₂ (add_of o)
        (sum_to_same o (min l n) (min l n) _ (part o D n w l) refl
        (λ i g. ap (mul_of o (slice_index D (n - min l n + i))) (get_or_append_left w (x ∷ []) 0 (l - min l n + i) (omega arith)))
        ∙ sym sum)
        (own ∙ is)
        ∙ complete o s (cond (l == n - 1 - u) 1 0) (start_below o l (n - 1 - u))

-- as many terms as the degree, or more
pub expands_from : (o : Order) (D : List ℕ) (n u : ℕ) (w : List ℕ) → AllElements o w → n ≤ length w → u < n → Begins o D n u w → Expands o (monomial u) D n w
expands_from o D n u w elements long below begins = record {
  elements = elements;
  long = long;
  recurrence = λ l h.
      sum_to_same o (suc n) (suc (min (l + n) n)) _ (part o D n w (l + n)) (omega arith)
      (λ i g. ap₂ (λ j k. mul_of o (slice_index D j) (slice_index w k)) (omega arith) (omega arith))
      ∙ begins (l + n) (omega arith)
      ∙ cond-false (l + n == n - 1 - u) 1 0 (ne_eqb (l + n) (n - 1 - u) (λ e. omega arith));
  numerator = λ c h.
      sum_to_same o (n - c) (suc (min (n - 1 - c) n)) _ (part o D n w (n - 1 - c)) (omega arith)
      (λ i g. ap₂ (λ j k. mul_of o (slice_index D j) (slice_index w k)) (omega arith) (omega arith))
      ∙ begins (n - 1 - c) (omega arith)
      ∙ elim (cases_eq c u) [
        | inl e ↦ cond-true (n - 1 - c == n - 1 - u) 1 0 (eq-eqb (n - 1 - c) (n - 1 - u) (omega arith)) ∙ sym (cond-true (c == u) 1 0 (eq-eqb c u e))
        | inr ne ↦ cond-false (n - 1 - c == n - 1 - u) 1 0 (ne_eqb (n - 1 - c) (n - 1 - u) (λ e. ne (omega arith))) ∙ sym (cond-false (c == u) 1 0 (ne_eqb c u ne))
      ];
}
