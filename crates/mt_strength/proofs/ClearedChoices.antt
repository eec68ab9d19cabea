-- The choices of what is left, once the rows that may follow the first row are cleared.
use Rattle.std.proofs.Common.{◌≡◌, ◌≢◌, inl, inr, ℕ, zero, suc, ◌+◌, ◌-◌, ◌*◌, ◌<◌, ◌≤◌, List, [], ◌∷◌, length, get_or, map, sum, min, replicate, sym, ap, ◌∙◌, subst, arith}
use Rattle.std.proofs.lemmas.Bool.{cases_lt}
use Rattle.std.proofs.lemmas.List.{get_or_past}
use Rattle.mt_linear.specs.declared.order.Order.{Order}
use Rattle.mt_linear.specs.Field.{neg_of, inv_of}
use Rattle.mt_linear.specs.Linear.{AllElements, Independent}
use Rattle.mt_linear.proofs.Reduction.{Independent-nil}
use Rattle.mt_system.specs.Choices.{AllAtMost}
use Rattle.mt_system.specs.Rows.{rows_by}
use Rattle.mt_system.proofs.ChoiceOrder.{sum-cons, AllAtMost-at}
use Rattle.mt_strength.specs.Lanes.{row_at, IsLanes, digit_of, digit_at}
use Rattle.mt_strength.specs.Pivots.{IsCleared}
use Rattle.mt_strength.specs.Searches.{IsTaken, AllIndependent, IsFound}
use Rattle.mt_strength.specs.Walks.{IsLaid, IsLeft, digits_in, clearing}
use Rattle.mt_strength.proofs.ByteLemmas.{digit_of_row}
use Rattle.mt_strength.proofs.Clearing.{Independent-left, Independent-cleared, zero_dependent, Zip, Zip-rows_by, Clears}
use Rattle.mt_strength.proofs.RowLemmas.{no_rows, sum_zeros}
use Rattle.mt_strength.proofs.SearchLemmas.{others_of, rows_first, raised}
use Rattle.mt_strength.proofs.SumLemmas.{digit_zero}

pub no_rows_taken : (M : ℕ → ℕ → List ℕ) (c : ℕ) (cs : List ℕ) → c + sum cs ≤ 0 → rows_by M (c ∷ cs) ≡ []
no_rows_taken M c cs l = no_rows M (c ∷ cs) (omega (arith, sum-cons c cs))

pub AllAtMost-min : (each m : ℕ) (cs : List ℕ) → AllAtMost each cs → sum cs ≤ m → AllAtMost (min each m) cs
AllAtMost-min each m [] h l = tt
AllAtMost-min each m (d ∷ ds) h l = let a : d ≤ each = h.0 in (omega (arith, sum-cons d ds), AllAtMost-min each m ds h.1 (omega (arith, sum-cons d ds)))

pub AllAtMost-weaker : (a b : ℕ) (cs : List ℕ) → a ≤ b → AllAtMost a cs → AllAtMost b cs
AllAtMost-weaker a b [] l h = tt
AllAtMost-weaker a b (d ∷ ds) l h = let m : d ≤ a = h.0 in (omega arith, AllAtMost-weaker a b ds l h.1)

pub elements_of : (o : Order) (v : List ℕ) → IsLanes o v → AllElements o (map (digit_of o) v)
elements_of o v h = λ k. rw (digit_of_row o v k) (h.each k).element

pub clears_of : (o : Order) (v : List ℕ) (place f : ℕ) (r w : List ℕ) → IsCleared o v place f r w → Clears o (map (digit_of o) v) place f (map (digit_of o) r) (map (digit_of o) w)
clears_of o v place f r w h = λ k. rw (digit_of_row o w k, digit_of_row o r k, digit_of_row o r place, digit_of_row o v k) (h.digits k)

-- rows that a choice takes are there
pub inside : (others width : ℕ) (cs : List ℕ) → length cs ≡ others → AllAtMost width cs → (i j : ℕ) → j < get_or cs i 0 → (i < others) × (j < width)
inside others width cs long at_most i j l =
    elim (cases_lt i (length cs)) [
      | inl m ↦ (omega arith, let h = AllAtMost-at width cs i at_most in omega arith)
      | inr m ↦ let z = get_or_past cs i 0 m in absurd (omega arith)
    ]

module _ (o : Order) (rows : List ℕ) (first others each place : ℕ) (laid : IsLaid o rows first others each) (some : 0 < first)
    (digit : digit_at o (row_at rows 0) place ≢ 0) where
  abbrev first_row : List ℕ
  first_row = map (digit_of o) (row_at rows 0)

  pub cleared : (rs ws : List (List ℕ)) → Zip (Clears o first_row place (clearing o rows place)) rs ws → Zip (λ r w. AllElements o r) rs ws → Independent o ws → Independent o (first_row ∷ rs)
  cleared = Independent-cleared o first_row place (clearing o rows place)
      (elements_of o (row_at rows 0) (laid.of_first 0 some) place)
      (λ e. digit (sym (digit_of_row o (row_at rows 0) place) ∙ e))
      (ap (λ d. neg_of o (inv_of o d)) (sym (digit_of_row o (row_at rows 0) place)))

  -- the rows that follow the first are elements
  pub elements_behind : (c : ℕ) (cs : List ℕ) → c ≤ first - 1 → length cs ≡ others → AllAtMost each cs → (i j : ℕ) → j < get_or (c ∷ cs) i 0
      → AllElements o (others_of (digits_in o rows first each) i j)
  elements_behind c cs l long at_most zero j h = elements_of o (row_at rows (suc j)) (laid.of_first (suc j) (omega arith))
  elements_behind c cs l long at_most (suc i) j h =
      let m = inside others each cs long at_most i j h in elements_of o (row_at rows (first + i * each + j)) (laid.of_others i j m.0 m.1)

  -- the first row alone
  pub all_one : AllIndependent o (λ d. rows_by (digits_in o rows first each) (raised d)) (first - 1) others each 0
  all_one c cs t =
      let M = digits_in o rows first each in
      subst (Independent o) (sym (rows_first M c cs ∙ ap (λ (xs : List (List ℕ)). M 0 0 ∷ xs) (no_rows_taken (others_of M) c cs t.size)))
      (cleared [] [] tt tt (Independent-nil o))

  module _ (n : ℕ) (next : List ℕ) (kept width : ℕ) (is_kept : kept ≡ min (first - 1) (n - 1)) (is_width : width ≡ min each (n - 1))
      (left : IsLeft o rows first others each place next kept width) where
    clears_at : (c : ℕ) (cs : List ℕ) → IsTaken kept others width (n - 1) c cs → (i j : ℕ) → j < get_or (c ∷ cs) i 0
        → Clears o first_row place (clearing o rows place) (others_of (digits_in o rows first each) i j) (digits_in o next kept width i j)
    clears_at c cs t zero j l =
        let of_first = t.of_first in
        subst (λ m. Clears o first_row place (clearing o rows place) (map (digit_of o) (row_at rows m)) (map (digit_of o) (row_at next j))) (let e : 1 + j ≡ suc j = omega arith in e)
        (clears_of o (row_at rows 0) place (clearing o rows place) (row_at rows (1 + j)) (row_at next j) (left.of_first j (omega arith)))
    clears_at c cs t (suc i) j l =
        let h = inside others width cs t.coordinates t.at_most i j l in
        clears_of o (row_at rows 0) place (clearing o rows place) (row_at rows (first + i * each + j)) (row_at next (kept + i * width + j)) (left.of_others i j h.0 h.1)

    taken_left : (c : ℕ) (cs : List ℕ) → IsTaken (first - 1) others each (n - 1) c cs → IsTaken kept others width (n - 1) c cs
    taken_left c cs t =
        let of_first = t.of_first in
        let size = t.size in
        record {
          of_first = rw is_kept (omega arith);
          coordinates = t.coordinates;
          at_most = rw is_width (AllAtMost-min each (n - 1) cs t.at_most (omega arith));
          size = size;
        }

    taken_whole : (c : ℕ) (cs : List ℕ) → IsTaken kept others width (n - 1) c cs → IsTaken (first - 1) others each (n - 1) c cs
    taken_whole c cs t =
        let of_first = t.of_first in
        record {
          of_first = omega arith;
          coordinates = t.coordinates;
          at_most = AllAtMost-weaker width each cs (omega arith) t.at_most;
          size = t.size;
        }

    -- a choice of what is left, and the same choice with the first row more
    independent_whole : (c : ℕ) (cs : List ℕ) → IsTaken kept others width (n - 1) c cs → Independent o (rows_by (digits_in o next kept width) (c ∷ cs))
        → Independent o (rows_by (digits_in o rows first each) (suc c ∷ cs))
    independent_whole c cs t independent =
        let M = digits_in o rows first each in
        let N = digits_in o next kept width in
        let whole = taken_whole c cs t in
        subst (Independent o) (sym (rows_first M c cs))
        (cleared (rows_by (others_of M) (c ∷ cs)) (rows_by N (c ∷ cs))
        (Zip-rows_by _ (others_of M) N (c ∷ cs) (clears_at c cs t))
        (Zip-rows_by _ (others_of M) N (c ∷ cs) (elements_behind c cs whole.of_first whole.coordinates whole.at_most))
        independent)

    independent_left : (c : ℕ) (cs : List ℕ) → IsTaken kept others width (n - 1) c cs → Independent o (rows_by (digits_in o rows first each) (suc c ∷ cs))
        → Independent o (rows_by (digits_in o next kept width) (c ∷ cs))
    independent_left c cs t independent =
        let M = digits_in o rows first each in
        let N = digits_in o next kept width in
        Independent-left o (M 0 0) place (clearing o rows place) (rows_by (others_of M) (c ∷ cs)) (rows_by N (c ∷ cs))
        (Zip-rows_by _ (others_of M) N (c ∷ cs) (clears_at c cs t))
        (subst (Independent o) (rows_first M c cs) independent)

    pub all_left : AllIndependent o (rows_by (digits_in o next kept width)) kept others width (n - 1)
        → AllIndependent o (λ d. rows_by (digits_in o rows first each) (raised d)) (first - 1) others each (n - 1)
    all_left all c cs t = let u = taken_left c cs t in independent_whole c cs u (all c cs u)

    pub found_left : (sizes : List ℕ) → IsFound o (rows_by (digits_in o next kept width)) kept others width (n - 1) sizes
        → IsFound o (λ d. rows_by (digits_in o rows first each) (raised d)) (first - 1) others each (n - 1) sizes
    found_left [] found = found
    found_left (c ∷ cs) found =
        record {
          taken = taken_whole c cs found.taken;
          dependent = λ independent. found.dependent (independent_left c cs found.taken independent);
          earlier = λ d ds t before. let u = taken_left d ds t in independent_whole d ds u (found.earlier d ds u before);
        }

-- a first row of zeros alone
pub zero_row : (o : Order) (rows : List ℕ) (first others each : ℕ) → ((k : ℕ) → get_or (row_at rows 0) k 0 ≡ 0)
    → Independent o (rows_by (digits_in o rows first each) (1 ∷ replicate others 0)) → ⊥
zero_row o rows first others each zeros independent =
    let M = digits_in o rows first each in
    let total = sum_zeros others in
    zero_dependent o (M 0 0) (λ k. digit_of_row o (row_at rows 0) k ∙ ap (digit_of o) (zeros k) ∙ digit_zero o)
    (subst (Independent o) (rows_first M 0 (replicate others 0) ∙ ap (λ (xs : List (List ℕ)). M 0 0 ∷ xs) (no_rows_taken (others_of M) 0 (replicate others 0) (omega arith))) independent)
