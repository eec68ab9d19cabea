-- A first row with one row more, of which something or nothing is left once it is cleared.
use Rattle.std.proofs.Common.{◌≡◌, ◌≢◌, inl, inr, ℕ, zero, suc, ◌+◌, ◌-◌, ◌*◌, ◌<◌, ◌≤◌, List, [], ◌∷◌, length, get_or, map, sum, replicate, refl, sym, ap, ap₂, ◌∙◌, subst, arith}
use Rattle.std.proofs.lemmas.Bool.{cases_lt}
use Rattle.std.proofs.lemmas.List.{get_or_past, length-map, length-replicate}
use Rattle.std.specs.Simd.Lanes.{zip2}
use Rattle.std.proofs.Math.ListN.{set}
use Rattle.std.proofs.lemmas.Simd.{length-zip2, get_or-zip2}
use Rattle.mt_linear.specs.declared.order.Order.{Order}
use Rattle.mt_linear.specs.Field.{add_of, mul_of}
use Rattle.mt_linear.specs.Linear.{Independent}
use Rattle.mt_linear.proofs.FieldLaws.{add_lt, mul_zero}
use Rattle.mt_linear.proofs.Combination.{zero_add_zero}
use Rattle.mt_linear.proofs.Reduction.{Independent-nil}
use Rattle.mt_system.specs.Choices.{AllAtMost, LexBefore}
use Rattle.mt_system.specs.Rows.{rows_by}
use Rattle.mt_system.proofs.ChoiceOrder.{sum-cons}
use Rattle.mt_strength.specs.Lanes.{row_at, IsLanes, digit_of, digit_at}
use Rattle.mt_strength.specs.Searches.{IsTaken, AllIndependent, IsFound}
use Rattle.mt_strength.specs.Walks.{IsLaid, SomeLeft, NoneLeft, HasNext, next_of, AreLeft, IsLastGone, digits_in, clearing}
use Rattle.mt_strength.proofs.ByteLemmas.{digit_of_row}
use Rattle.mt_strength.proofs.Clearing.{Independent-left, Independent-single, zero_dependent, IsNonzero, Zip-rows_by, Clears}
use Rattle.mt_strength.proofs.ClearedChoices.{inside, cleared, elements_behind}
use Rattle.mt_strength.proofs.RowLemmas.{no_rows, sum_zeros, lex_none, AllAtMost-zeros}
use Rattle.mt_strength.proofs.SearchLemmas.{others_of, rows_first, raised}

-- what is left of r, as a list
abbrev clear_list : Order → ℕ → List ℕ → List ℕ → List ℕ
clear_list o c r p = zip2 (λ x y. add_of o x (mul_of o c y)) r p

clears_list : (o : Order) (c place f : ℕ) (r p : List ℕ) → length r ≡ 32 → length p ≡ 32 → c ≡ mul_of o (get_or r place 0) f → Clears o p place f r (clear_list o c r p)
clears_list o c place f r p lr lp e k =
    elim (cases_lt k 32) [
      | inl l ↦ get_or-zip2 (λ x y. add_of o x (mul_of o c y)) r p k 0 0 0 (omega arith) (omega arith) ∙ ap (λ d. add_of o (get_or r k 0) (mul_of o d (get_or p k 0))) e
      | inr l ↦ get_or_past (clear_list o c r p) k 0 (omega (arith, length-zip2 (λ x y. add_of o x (mul_of o c y)) r p (lr ∙ sym lp)))
          ∙ sym (ap₂ (λ x y. add_of o x (mul_of o (mul_of o (get_or r place 0) f) y)) (get_or_past r k 0 (omega arith)) (get_or_past p k 0 (omega arith)) ∙ ap (add_of o 0) (mul_zero o _) ∙ zero_add_zero o)
    ]

-- one row at most, and that not zero
one_row : (o : Order) (N : ℕ → ℕ → List ℕ) (cs : List ℕ) → sum cs ≤ 1 → ((i : ℕ) → 0 < get_or cs i 0 → IsNonzero o (N i 0)) → Independent o (rows_by N cs)
one_row o N [] l h = Independent-nil o
one_row o N (zero ∷ ds) l h = one_row o (λ i. N (suc i)) ds (omega (arith, sum-cons 0 ds)) (λ i m. h (suc i) m)
one_row o N (suc zero ∷ ds) l h =
    let e : sum ds ≡ 0 = omega (arith, sum-cons 1 ds) in
    subst (Independent o) (ap (λ (xs : List (List ℕ)). N 0 0 ∷ xs) (sym (no_rows (λ i. N (suc i)) ds e))) (Independent-single o (N 0 0) (h 0 (omega arith)))
one_row o N (suc (suc d) ∷ ds) l h = absurd (omega (arith, sum-cons (suc (suc d)) ds))

abbrev left_of : Order → List ℕ → ℕ → ℕ → List ℕ
left_of o rows place j = clear_list o (mul_of o (get_or (map (digit_of o) (row_at rows j)) place 0) (clearing o rows place)) (map (digit_of o) (row_at rows j)) (map (digit_of o) (row_at rows 0))

long_row : (o : Order) (rows : List ℕ) (j : ℕ) → IsLanes o (row_at rows j) → length (map (digit_of o) (row_at rows j)) ≡ 32
long_row o rows j h = length-map (row_at rows j) (digit_of o) ∙ h.long

clears_left : (o : Order) (rows : List ℕ) (place j : ℕ) → IsLanes o (row_at rows 0) → IsLanes o (row_at rows j)
    → Clears o (map (digit_of o) (row_at rows 0)) place (clearing o rows place) (map (digit_of o) (row_at rows j)) (left_of o rows place j)
clears_left o rows place j g h = clears_list o _ place (clearing o rows place) (map (digit_of o) (row_at rows j)) (map (digit_of o) (row_at rows 0)) (long_row o rows j h) (long_row o rows 0 g) refl

nonzero_left : (o : Order) (rows : List ℕ) (place j : ℕ) → IsLanes o (row_at rows 0) → IsLanes o (row_at rows j) → SomeLeft o rows place j → IsNonzero o (left_of o rows place j)
nonzero_left o rows place j g h s =
    let c = clears_left o rows place j g h in
    record {
      elements = λ k. rw (c k) (add_lt o _ _);
      place = s.0;
      some = λ e. s.1 (sym (c s.0 ∙ (λ i. add_of o (digit_of_row o (row_at rows j) s.0 i) (mul_of o (mul_of o (digit_of_row o (row_at rows j) place i) (clearing o rows place)) (digit_of_row o (row_at rows 0) s.0 i)))) ∙ e);
    }

-- one row of coordinate i alone
pub unit_choice : ℕ → ℕ → List ℕ
unit_choice zero i = []
unit_choice (suc n) zero = 1 ∷ replicate n 0
unit_choice (suc n) (suc i) = 0 ∷ unit_choice n i

unit_length : (n i : ℕ) → length (unit_choice n i) ≡ n
unfolding unit_choice
unit_length zero i = refl
unit_length (suc n) zero = ap suc (length-replicate n 0)
unit_length (suc n) (suc i) = ap suc (unit_length n i)

unit_sum : (n i : ℕ) → sum (unit_choice n i) ≤ 1
unfolding unit_choice
unit_sum zero i = omega arith
unit_sum (suc n) zero = let z = sum_zeros n in omega (arith, sum-cons 1 (replicate n 0))
unit_sum (suc n) (suc i) = let z = unit_sum n i in omega (arith, sum-cons 0 (unit_choice n i))

unit_at_most : (each n i : ℕ) → 0 < each → AllAtMost each (unit_choice n i)
unfolding unit_choice
unit_at_most each zero i l = tt
unit_at_most each (suc n) zero l = (omega arith, AllAtMost-zeros each n)
unit_at_most each (suc n) (suc i) l = (omega arith, unit_at_most each n i l)

unit_rows : (N : ℕ → ℕ → List ℕ) (n i : ℕ) → i < n → rows_by N (unit_choice n i) ≡ N i 0 ∷ []
unfolding unit_choice
unit_rows N zero i l = absurd (omega arith)
unit_rows N (suc n) zero l = ap (λ (xs : List (List ℕ)). N 0 0 ∷ xs) (no_rows (λ i. N (suc i)) (replicate n 0) (sum_zeros n))
unit_rows N (suc n) (suc i) l = unit_rows (λ i. N (suc i)) n i (omega arith)

unit_set : (n i : ℕ) → i < n → set (replicate n 0) i 1 ≡ unit_choice n i
unfolding unit_choice
unit_set zero i l = absurd (omega arith)
unit_set (suc n) zero l = refl
unit_set (suc n) (suc i) l = ap (λ xs. 0 ∷ xs) (unit_set n i (omega arith))

-- zeros, and a 1 at coordinate i
pub unit_written : (others i len : ℕ) (zeros : List ℕ) → zeros ≡ replicate len 0 → len ≡ 1 + others → i < 1 + others → set zeros i 1 ≡ unit_choice (suc others) i
unit_written others i len zeros are long l =
    let e : len ≡ suc others = omega arith in
    ap (λ (xs : List ℕ). set xs i 1) (are ∙ ap (λ n. replicate n 0) e) ∙ unit_set (suc others) i (omega arith)

-- what comes before one row of coordinate i, and has a row of coordinate j
unit_before : (n i : ℕ) (ds : List ℕ) (j : ℕ) → LexBefore ds (unit_choice n i) → 0 < get_or ds j 0 → i < j
unfolding unit_choice
unit_before zero i [] j before l = absurd before
unit_before zero i (d ∷ ds) j before l = absurd before
unit_before (suc n) zero [] j before l = absurd before
unit_before (suc n) zero (d ∷ ds) zero before l =
    elim before [ inl m ↦ let h : d < 1 = m in absurd (omega arith) | inr rest ↦ absurd (lex_none n ds rest.1) ]
unit_before (suc n) zero (d ∷ ds) (suc j) before l = omega arith
unit_before (suc n) (suc i) [] j before l = absurd before
unit_before (suc n) (suc i) (d ∷ ds) zero before l =
    elim before [ inl m ↦ let h : d < 0 = m in absurd (omega arith) | inr rest ↦ let e : d ≡ 0 = rest.0 in absurd (omega arith) ]
unit_before (suc n) (suc i) (d ∷ ds) (suc j) before l =
    elim before [ inl m ↦ let h : d < 0 = m in absurd (omega arith) | inr rest ↦ let h = unit_before n i ds j rest.1 l in omega arith ]

module _ (o : Order) (rows : List ℕ) (first others each place : ℕ) (laid : IsLaid o rows first others each) (some : 0 < first)
    (digit : digit_at o (row_at rows 0) place ≢ 0) where
  abbrev lefts : ℕ → ℕ → List ℕ
  lefts zero j = left_of o rows place (suc j)
  lefts (suc i) j = left_of o rows place (first + i * each + j)

  clears_next : (c : ℕ) (cs : List ℕ) → IsTaken (first - 1) others each 1 c cs → (i j : ℕ) → j < get_or (c ∷ cs) i 0
      → Clears o (map (digit_of o) (row_at rows 0)) place (clearing o rows place) (others_of (digits_in o rows first each) i j) (lefts i j)
  clears_next c cs t zero j l = let k = t.of_first in clears_left o rows place (suc j) (laid.of_first 0 some) (laid.of_first (suc j) (omega arith))
  clears_next c cs t (suc i) j l =
      let h = inside others each cs t.coordinates t.at_most i j l in clears_left o rows place (first + i * each + j) (laid.of_first 0 some) (laid.of_others i j h.0 h.1)

  has_next : (c : ℕ) (cs : List ℕ) → IsTaken (first - 1) others each 1 c cs → (i : ℕ) → 0 < get_or (c ∷ cs) i 0 → HasNext first others each i
  has_next c cs t zero l = let k = t.of_first in omega arith
  has_next c cs t (suc i) l = inside others each cs t.coordinates t.at_most i 0 l

  nonzero_next : (i : ℕ) → HasNext first others each i → SomeLeft o rows place (next_of first each i) → IsNonzero o (lefts i 0)
  nonzero_next zero h l = nonzero_left o rows place 1 (laid.of_first 0 some) (laid.of_first 1 h) l
  nonzero_next (suc i) h l =
      let e : first + i * each ≡ first + i * each + 0 = omega arith in
      nonzero_left o rows place (first + i * each + 0) (laid.of_first 0 some) (laid.of_others i 0 h.0 h.1) (subst (SomeLeft o rows place) e l)

  independent_next : (c : ℕ) (cs : List ℕ) → IsTaken (first - 1) others each 1 c cs → ((i : ℕ) → 0 < get_or (c ∷ cs) i 0 → SomeLeft o rows place (next_of first each i))
      → Independent o (rows_by (digits_in o rows first each) (suc c ∷ cs))
  independent_next c cs t left =
      let M = digits_in o rows first each in
      let size = t.size in
      subst (Independent o) (sym (rows_first M c cs))
      (cleared o rows first others each place laid some digit (rows_by (others_of M) (c ∷ cs)) (rows_by lefts (c ∷ cs))
      (Zip-rows_by _ (others_of M) lefts (c ∷ cs) (clears_next c cs t))
      (Zip-rows_by _ (others_of M) lefts (c ∷ cs) (elements_behind o rows first others each place laid some digit c cs t.of_first t.coordinates t.at_most))
      (one_row o lefts (c ∷ cs) (omega (arith, sum-cons c cs)) (λ i l. nonzero_next i (has_next c cs t i l) (left i l))))

  none_next : (i : ℕ) → HasNext first others each i → NoneLeft o rows place (next_of first each i) → (k : ℕ) → get_or (lefts i 0) k 0 ≡ 0
  none_next zero h none k =
      clears_left o rows place 1 (laid.of_first 0 some) (laid.of_first 1 h) k
      ∙ (λ i. add_of o (digit_of_row o (row_at rows 1) k i) (mul_of o (mul_of o (digit_of_row o (row_at rows 1) place i) (clearing o rows place)) (digit_of_row o (row_at rows 0) k i)))
      ∙ none k
  none_next (suc m) h none k =
      let j = first + m * each + 0 in
      let e : first + m * each ≡ j = omega arith in
      clears_left o rows place j (laid.of_first 0 some) (laid.of_others m 0 h.0 h.1) k
      ∙ (λ i. add_of o (digit_of_row o (row_at rows j) k i) (mul_of o (mul_of o (digit_of_row o (row_at rows j) place i) (clearing o rows place)) (digit_of_row o (row_at rows 0) k i)))
      ∙ subst (NoneLeft o rows place) e none k

  place_next : (i : ℕ) → HasNext first others each i → i < suc others
  place_next zero h = omega arith
  place_next (suc i) h = let l = h.0 in omega arith

  -- a choice whose only row behind the first is cleared to zeros
  dependent_next : (i c : ℕ) (cs : List ℕ) → HasNext first others each i → NoneLeft o rows place (next_of first each i) → c ∷ cs ≡ unit_choice (suc others) i
      → IsTaken (first - 1) others each 1 c cs → Independent o (rows_by (digits_in o rows first each) (suc c ∷ cs)) → ⊥
  dependent_next i c cs h none is t independent =
      let M = digits_in o rows first each in
      zero_dependent o (lefts i 0) (none_next i h none)
      (subst (Independent o) (ap (rows_by lefts) is ∙ unit_rows lefts (suc others) i (place_next i h))
      (Independent-left o (M 0 0) place (clearing o rows place) (rows_by (others_of M) (c ∷ cs)) (rows_by lefts (c ∷ cs))
      (Zip-rows_by _ (others_of M) lefts (c ∷ cs) (clears_next c cs t))
      (subst (Independent o) (rows_first M c cs) independent)))

  pub all_next : AreLeft o rows first others each place 0 → AllIndependent o (λ d. rows_by (digits_in o rows first each) (raised d)) (first - 1) others each 1
  all_next left c cs t = independent_next c cs t (λ i l. left i (omega arith) (has_next c cs t i l))

  found_unit : (i c : ℕ) (cs : List ℕ) → IsLastGone o rows first others each place i → c ∷ cs ≡ unit_choice (suc others) i → IsTaken (first - 1) others each 1 c cs
      → IsFound o (λ d. rows_by (digits_in o rows first each) (raised d)) (first - 1) others each 1 (c ∷ cs)
  found_unit i c cs gone is t =
      record {
        taken = t;
        dependent = dependent_next i c cs gone.next gone.gone is t;
        earlier = λ d ds u before. independent_next d ds u (λ j l.
            let h = unit_before (suc others) i (d ∷ ds) j (subst (LexBefore (d ∷ ds)) is before) l in
            gone.later j (omega arith) (has_next d ds u j l));
      }

  pub within_next : (i : ℕ) → IsLastGone o rows first others each place i → i < 1 + others
  within_next i gone = let l = place_next i gone.next in omega arith

  pub found_next : (i : ℕ) → IsLastGone o rows first others each place i → IsFound o (λ d. rows_by (digits_in o rows first each) (raised d)) (first - 1) others each 1 (unit_choice (suc others) i)
  unfolding unit_choice
  found_next zero gone =
      let l = gone.next in
      let z = sum_zeros others in
      found_unit zero 1 (replicate others 0) gone refl (record { of_first = omega arith; coordinates = length-replicate others 0; at_most = AllAtMost-zeros each others; size = omega arith })
  found_next (suc i) gone =
      let h = gone.next in
      found_unit (suc i) 0 (unit_choice others i) gone refl (record {
        of_first = omega arith;
        coordinates = unit_length others i;
        at_most = unit_at_most each others i h.1;
        size = let u = unit_sum others i in omega arith;
      })
