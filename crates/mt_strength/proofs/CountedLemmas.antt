-- A search that decides each choice by one insertion more: the rows, the steps, and the least choice.
use Rattle.std.proofs.Common.{◌≡◌, inl, inr, ◌⊎◌, Bool, true, false, ℕ, zero, suc, ◌+◌, ◌-◌, ◌<◌, ◌≤◌, List, [], ◌∷◌, ◌++◌, length, get_or, map, min, Result, Ok, Err, set, replicate, refl, sym, ap, ap₂, ◌∙◌, subst, arith, append_assoc, append-nil, add-one}
use Rattle.std.specs.Result.{OnOk}
use Rattle.std.proofs.lemmas.Bool.{cases_lt}
use Rattle.std.proofs.Math.ListN.{drop_of_length-le}
use borrow.Rule.Slice.PartMut.{put_mid}
use Rattle.std.proofs.lemmas.List.{length-map, get_or-map, get_or_past}
use Rattle.mt_linear.specs.declared.order.Order.{Order}
use Rattle.mt_linear.specs.Field.{neg_of}
use Rattle.mt_linear.specs.Linear.{AllElements, Gives, Independent}
use Rattle.mt_linear.proofs.FieldLaws.{number_pos, neg_lt}
use Rattle.mt_system.specs.Counts.{sum_below, number_of_choices}
use Rattle.mt_system.specs.Rows.{rows_by}
use Rattle.mt_strength.specs.Searches.{AllIndependent, IsFound}
use Rattle.mt_strength.specs.CountedSearch.{rows_from, rows_after, number_taken, IsSearched, IsSearchedBehind}
use Rattle.mt_strength.proofs.RowLemmas.{rows_by-same, no_rows, sum_zeros, IsRelation-by, relation_dependent}
use Rattle.mt_strength.proofs.SearchLemmas.{others_of, rows_first, raised, WithoutFirst, WithoutFirst-single, WithoutFirst-behind, AllIndependent-none, AllIndependent-both, IsFound-behind, IsFound-raised, IsFound-one}

-- a vector that is a combination makes the list dependent
pub given_dependent : (o : Order) (vs : List (List ℕ)) (v c : List ℕ) → AllElements o v → AllElements o c → length c ≡ length vs → Gives o (λ k. get_or c k 0) vs v
    → Independent o (vs ++ v ∷ []) → ⊥
given_dependent o vs v c v_in c_in size gives =
    let n = map (neg_of o) c in
    let n_size : length n ≡ length c = length-map c (neg_of o) in
    let n_at : (k : ℕ) → k < length n → get_or n k 0 ≡ neg_of o (get_or c k 0) = λ k l. get_or-map (neg_of o) c k 0 0 (omega arith) in
    let n_in : AllElements o n = λ k. elim (cases_lt k (length n)) [
      | inl l ↦ rw (n_at k l) (neg_lt o (get_or c k 0))
      | inr l ↦ rw (get_or_past n k 0 l) (number_pos o)
    ] in
    relation_dependent o (vs ++ v ∷ []) (n ++ 1 ∷ []) (IsRelation-by o vs v c n (n ++ 1 ∷ []) v_in gives size n_in n_size n_at refl)

AllIndependent-same : (o : Order) (R S : List ℕ → List (List ℕ)) (first others each n : ℕ) → ((c : ℕ) (cs : List ℕ) → R (c ∷ cs) ≡ S (c ∷ cs))
    → AllIndependent o R first others each n → AllIndependent o S first others each n
AllIndependent-same o R S first others each n same all c cs t = subst (Independent o) (same c cs) (all c cs t)

IsFound-same : (o : Order) (R S : List ℕ → List (List ℕ)) (first others each n : ℕ) (c : List ℕ) → ((c : ℕ) (cs : List ℕ) → R (c ∷ cs) ≡ S (c ∷ cs))
    → IsFound o R first others each n c → IsFound o S first others each n c
IsFound-same o R S first others each n [] same found = found
IsFound-same o R S first others each n (c ∷ cs) same found = record {
  taken = found.taken;
  dependent = λ independent. found.dependent (subst (Independent o) (sym (same c cs)) independent);
  earlier = λ d ds t before. subst (Independent o) (same d ds) (found.earlier d ds t before);
}

module _ (V : List (List ℕ)) (M : ℕ → ℕ → List ℕ) (i j : ℕ) where
  rows_none : rows_after V M i j (0 ∷ []) ≡ V
  rows_none = append-nil V

  -- without a row of the first coordinate
  rows_behind : (ds : List ℕ) → rows_after V M (suc i) 0 ds ≡ rows_after V M i j (0 ∷ ds)
  rows_behind ds = ap (λ (xs : List (List ℕ)). V ++ xs) (rows_by-same (rows_from M (suc i) 0) (λ a. rows_from M i j (suc a)) ds same)
    where
      same : (a b : ℕ) → rows_from M (suc i) 0 a b ≡ rows_from M i j (suc a) b
      same zero b = ap₂ M (let e : suc i ≡ i + 1 = omega arith in e) (let e : 0 + b ≡ b = omega arith in e)
      same (suc a) b = ap (λ n. M n b) (let e : suc i + suc a ≡ i + suc (suc a) = omega arith in e)

  -- with the first row among the vectors so far
  rows_raised : (c : ℕ) (cs : List ℕ) → rows_after (V ++ M i j ∷ []) M i (suc j) (c ∷ cs) ≡ rows_after V M i j (suc c ∷ cs)
  rows_raised c cs =
      append_assoc V (M i j ∷ []) (rows_by (rows_from M i (suc j)) (c ∷ cs))
      ∙ ap (λ (xs : List (List ℕ)). V ++ xs)
      (ap₂ (λ (x : List ℕ) (xs : List (List ℕ)). x ∷ xs) (ap (M i) (let e : j ≡ j + 0 = omega arith in e)) (rows_by-same (rows_from M i (suc j)) (others_of (rows_from M i j)) (c ∷ cs) same)
      ∙ sym (rows_first (rows_from M i j) c cs))
    where
      same : (a b : ℕ) → rows_from M i (suc j) a b ≡ others_of (rows_from M i j) a b
      same zero b = ap (M i) (let e : suc j + b ≡ j + suc b = omega arith in e)
      same (suc a) b = refl

  -- the first row alone
  rows_one : (others : ℕ) → rows_after V M i j (1 ∷ replicate others 0) ≡ V ++ M i j ∷ []
  rows_one others =
      sym (rows_raised 0 (replicate others 0))
      ∙ ap (λ (xs : List (List ℕ)). (V ++ M i j ∷ []) ++ xs) (no_rows (λ a. rows_from M i (suc j) (suc a)) (replicate others 0) (sum_zeros others))
      ∙ append-nil (V ++ M i j ∷ [])

  raised_same : (c : ℕ) (cs : List ℕ) → rows_after (V ++ M i j ∷ []) M i (suc j) (c ∷ cs) ≡ rows_after V M i j (raised (c ∷ cs))
  raised_same c cs = rows_raised c cs

module _ (o : Order) (V : List (List ℕ)) (M : ℕ → ℕ → List ℕ) where
  -- the last coordinate
  pub searched_last : (i j first others each n : ℕ) (sizes : List ℕ) → others ≡ 0 → Independent o V → IsSearchedBehind o (rows_after V M i j) first others each n sizes true
  searched_last i j first others each n sizes none independent =
      subst (λ m. WithoutFirst o (rows_after V M i j) first m each n) (sym none)
      (WithoutFirst-single o (rows_after V M i j) first each n (subst (Independent o) (sym (rows_none V M i j)) independent))

  behind_true : (i j first others each n : ℕ) → AllIndependent o (rows_after V M (suc i) 0) each others each n
      → WithoutFirst o (rows_after V M i j) first (suc others) each n
  behind_true i j first others each n all =
      WithoutFirst-behind o (rows_after V M i j) first others each n
      (AllIndependent-same o (rows_after V M (suc i) 0) (λ ds. rows_after V M i j (0 ∷ ds)) each others each n (λ c cs. rows_behind V M i j (c ∷ cs)) all)

  behind_false : (i j first others each n : ℕ) (sizes : List ℕ) → IsFound o (rows_after V M (suc i) 0) each others each n sizes
      → IsFound o (rows_after V M i j) first (suc others) each n (0 ∷ sizes)
  behind_false i j first others each n sizes found =
      IsFound-behind o (rows_after V M i j) first others each n sizes
      (IsFound-same o (rows_after V M (suc i) 0) (λ ds. rows_after V M i j (0 ∷ ds)) each others each n sizes (λ c cs. rows_behind V M i j (c ∷ cs)) found)

  -- what the search of the coordinates behind says
  pub searched_behind : (i next j first others each n : ℕ) (sizes new : List ℕ) (b : Bool) → next ≡ suc i → 0 < others → new ≡ 0 ∷ sizes
      → IsSearched o (rows_after V M next 0) (each - 0) (others - 1) each n sizes b → IsSearchedBehind o (rows_after V M i j) first others each n new b
  searched_behind i next j first others each n sizes new true is some made h =
      let e : suc (others - 1) ≡ others = omega arith in
      let whole : each - 0 ≡ each = omega arith in
      subst (λ m. WithoutFirst o (rows_after V M i j) first m each n) e
      (behind_true i j first (others - 1) each n
      (subst (λ m. AllIndependent o (rows_after V M m 0) each (others - 1) each n) is (subst (λ m. AllIndependent o (rows_after V M next 0) m (others - 1) each n) whole h)))
  searched_behind i next j first others each n sizes new false is some made h =
      let e : suc (others - 1) ≡ others = omega arith in
      let whole : each - 0 ≡ each = omega arith in
      subst (λ m. IsFound o (rows_after V M i j) first m each n new) e
      (subst (IsFound o (rows_after V M i j) first (suc (others - 1)) each n) (sym made)
      (behind_false i j first (others - 1) each n sizes
      (subst (λ m. IsFound o (rows_after V M m 0) each (others - 1) each n sizes) is (subst (λ m. IsFound o (rows_after V M next 0) m (others - 1) each n sizes) whole h))))

  -- no row of the first coordinate can be taken
  pub searched_none : (i j first others each n : ℕ) (sizes : List ℕ) → (first ≡ 0) ⊎ (n ≡ 0) → IsSearchedBehind o (rows_after V M i j) first others each n sizes true
      → IsSearched o (rows_after V M i j) first others each n sizes true
  searched_none i j first others each n sizes none without = AllIndependent-none o (rows_after V M i j) first others each n none without

  -- found without a row of the first coordinate
  pub searched_found : (i j first others each n : ℕ) (sizes : List ℕ) → IsSearchedBehind o (rows_after V M i j) first others each n sizes false
      → IsSearched o (rows_after V M i j) first others each n sizes false
  searched_found i j first others each n sizes found = found

  -- the first row depends on the vectors so far
  pub searched_one : (i j first others each n : ℕ) (row c sizes : List ℕ) → 0 < first → 0 < n → row ≡ M i j → AllElements o row → AllElements o c → length c ≡ length V
      → Gives o (λ k. get_or c k 0) V row → sizes ≡ 1 ∷ replicate others 0 → WithoutFirst o (rows_after V M i j) first others each n
      → IsFound o (rows_after V M i j) first others each n sizes
  searched_one i j first others each n row c sizes some more is row_in c_in size gives made without =
      subst (IsFound o (rows_after V M i j) first others each n) (sym made)
      (IsFound-one o (rows_after V M i j) first others each n some more without
      (λ independent. given_dependent o V row c row_in c_in size gives
      (subst (λ (x : List ℕ). Independent o (V ++ x ∷ [])) (sym is) (subst (Independent o) (rows_one V M i j others) independent))))

  -- what the search with one row more says
  with_true : (i j first others each n : ℕ) → WithoutFirst o (rows_after V M i j) (suc first) others each (suc n)
      → AllIndependent o (rows_after (V ++ M i j ∷ []) M i (suc j)) first others each n → AllIndependent o (rows_after V M i j) (suc first) others each (suc n)
  with_true i j first others each n without all =
      AllIndependent-both o (rows_after V M i j) first others each n without
      (AllIndependent-same o (rows_after (V ++ M i j ∷ []) M i (suc j)) (λ d. rows_after V M i j (raised d)) first others each n (raised_same V M i j) all)

  with_false : (i j first others each n : ℕ) (sizes new : List ℕ) → new ≡ set sizes 0 (get_or sizes 0 0 + 1) → WithoutFirst o (rows_after V M i j) (suc first) others each (suc n)
      → IsFound o (rows_after (V ++ M i j ∷ []) M i (suc j)) first others each n sizes → IsFound o (rows_after V M i j) (suc first) others each (suc n) new
  with_false i j first others each n [] new made without found = absurd found
  with_false i j first others each n (c ∷ cs) new made without found =
      let more : c + 1 ≡ suc c = omega arith in
      subst (IsFound o (rows_after V M i j) (suc first) others each (suc n)) (sym (made ∙ ap (λ m. m ∷ cs) more))
      (IsFound-raised o (rows_after V M i j) first others each n c cs without
      (IsFound-same o (rows_after (V ++ M i j ∷ []) M i (suc j)) (λ d. rows_after V M i j (raised d)) first others each n (c ∷ cs) (raised_same V M i j) found))

  module _ (W : List (List ℕ)) (i j depth others each n : ℕ) (some : 0 < n) (room : j < depth) (appended : W ≡ V ++ M i j ∷ [])
      (without : WithoutFirst o (rows_after V M i j) (depth - j) others each n) where
    first_is : suc (depth - (j + 1)) ≡ depth - j
    first_is = omega arith

    n_is : suc (n - 1) ≡ n
    n_is = omega arith

    without' : WithoutFirst o (rows_after V M i j) (suc (depth - (j + 1))) others each (suc (n - 1))
    without' = subst (λ m. WithoutFirst o (rows_after V M i j) m others each (suc (n - 1))) (sym first_is) (subst (λ m. WithoutFirst o (rows_after V M i j) (depth - j) others each m) (sym n_is) without)

    pub searched_with_true : AllIndependent o (rows_after W M i (j + 1)) (depth - (j + 1)) others each (n - 1) → AllIndependent o (rows_after V M i j) (depth - j) others each n
    searched_with_true all =
        subst (λ m. AllIndependent o (rows_after V M i j) m others each n) first_is
        (subst (λ m. AllIndependent o (rows_after V M i j) (suc (depth - (j + 1))) others each m) n_is
        (with_true i j (depth - (j + 1)) others each (n - 1) without'
        (subst (λ m. AllIndependent o (rows_after (V ++ M i j ∷ []) M i m) (depth - (j + 1)) others each (n - 1)) (add-one j)
        (subst (λ (U : List (List ℕ)). AllIndependent o (rows_after U M i (j + 1)) (depth - (j + 1)) others each (n - 1)) appended all))))

    pub searched_with_false : (sizes new : List ℕ) → new ≡ set sizes 0 (get_or sizes 0 0 + 1) → IsFound o (rows_after W M i (j + 1)) (depth - (j + 1)) others each (n - 1) sizes
        → IsFound o (rows_after V M i j) (depth - j) others each n new
    searched_with_false sizes new made found =
        subst (λ m. IsFound o (rows_after V M i j) m others each n new) first_is
        (subst (λ m. IsFound o (rows_after V M i j) (suc (depth - (j + 1))) others each m new) n_is
        (with_false i j (depth - (j + 1)) others each (n - 1) sizes new made without'
        (subst (λ m. IsFound o (rows_after (V ++ M i j ∷ []) M i m) (depth - (j + 1)) others each (n - 1) sizes) (add-one j)
        (subst (λ (U : List (List ℕ)). IsFound o (rows_after U M i (j + 1)) (depth - (j + 1)) others each (n - 1) sizes) appended found))))

-- the number of choices

pub number_positive : (s each n : ℕ) → 0 < number_of_choices s each n
number_positive zero each n = omega arith
number_positive (suc s) each n =
    let f = λ (d : ℕ). number_of_choices s each (n - d) in
    let m = min each n in
    let more : sum_below (m + 1) f ≡ sum_below m f + f m = ap (λ k. sum_below k f) (add-one m) in
    let h = number_positive s each (n - m) in
    omega arith

sum_below-le : (a b : ℕ) (f g : ℕ → ℕ) → a ≤ b → ((d : ℕ) → d < a → f d ≤ g d) → sum_below a f ≤ sum_below b g
sum_below-le a zero f g l h = let e : a ≡ 0 = omega arith in subst (λ n. sum_below n f ≤ 0) (sym e) (omega arith)
sum_below-le zero (suc b) f g l h = omega arith
sum_below-le (suc a) (suc b) f g l h =
    let rest : sum_below a f ≤ sum_below b g = sum_below-le a b f g (omega arith) (λ d m. h d (omega arith)) in
    elim (cases_lt a b) [
      | inl m ↦
          let all : sum_below (suc a) f ≤ sum_below b g = sum_below-le (suc a) b f g (omega arith) h in
          omega arith
      | inr m ↦
          let e : a ≡ b = omega arith in
          let last : f a ≤ g b = subst (λ n. f a ≤ g n) e (h a (omega arith)) in
          omega arith
    ]

pub number_rises : (s each k n : ℕ) → k ≤ n → number_of_choices s each k ≤ number_of_choices s each n
number_rises zero each k n l = omega arith
number_rises (suc s) each k n l =
    sum_below-le (min each k + 1) (min each n + 1) (λ d. number_of_choices s each (k - d)) (λ d. number_of_choices s each (n - d)) (omega arith)
    (λ d m. number_rises s each (k - d) (n - d) (omega arith))

sum_below-prefix : (n : ℕ) (f : ℕ → ℕ) → sum_below (suc n) f ≡ f 0 + sum_below n (λ d. f (suc d))
sum_below-prefix zero f = omega arith
sum_below-prefix (suc n) f = let h = sum_below-prefix n f in omega arith

sum_below-same : (n : ℕ) (f g : ℕ → ℕ) → ((d : ℕ) → f d ≡ g d) → sum_below n f ≡ sum_below n g
sum_below-same zero f g h = refl
sum_below-same (suc n) f g h = ap₂ (λ a b. a + b) (sum_below-same n f g h) (h n)

-- without a row of the first coordinate, and with one or more
number_taken-suc : (first others each n : ℕ) → number_taken (suc first) others each (suc n) ≡ number_of_choices others each (suc n) + number_taken first others each n
number_taken-suc first others each n =
    let f = λ (d : ℕ). number_of_choices others each (suc n - d) in
    let m = min first n + 1 in
    ap (λ k. sum_below k f) (let e : min (suc first) (suc n) + 1 ≡ suc m = omega arith in e)
    ∙ sum_below-prefix m f
    ∙ ap₂ (λ a b. a + b) (ap (number_of_choices others each) (let e : suc n - 0 ≡ suc n = omega arith in e))
    (sum_below-same m (λ d. f (suc d)) (λ d. number_of_choices others each (n - d)) (λ d. ap (number_of_choices others each) (let e : suc n - suc d ≡ n - d = omega arith in e)))

pub number_taken-with : (depth j others each n : ℕ) → j < depth → 0 < n
    → number_taken (depth - j) others each n ≡ number_of_choices others each n + number_taken (depth - (j + 1)) others each (n - 1)
number_taken-with depth j others each n l m =
    let first_is : depth - j ≡ suc (depth - (j + 1)) = omega arith in
    let n_is : n ≡ suc (n - 1) = omega arith in
    ap₂ (λ a b. number_taken a others each b) first_is n_is
    ∙ number_taken-suc (depth - (j + 1)) others each (n - 1)
    ∙ ap (λ b. number_of_choices others each b + number_taken (depth - (j + 1)) others each (n - 1)) (sym n_is)

pub number_taken-least : (first others each n : ℕ) → number_of_choices others each n ≤ number_taken first others each n
number_taken-least first others each n =
    let f = λ (d : ℕ). number_of_choices others each (n - d) in
    let m = min first n in
    let prefix : sum_below (m + 1) f ≡ f 0 + sum_below m (λ d. f (suc d)) = ap (λ k. sum_below k f) (add-one m) ∙ sum_below-prefix m f in
    let none : f 0 ≡ number_of_choices others each n = ap (number_of_choices others each) (let e : n - 0 ≡ n = omega arith in e) in
    omega arith

pub number_taken-positive : (first others each n : ℕ) → 0 < number_taken first others each n
number_taken-positive first others each n = let h = number_positive others each n in let l = number_taken-least first others each n in omega arith

pub number_taken-whole : (first others each n : ℕ) → first ≡ each - 0 → 0 < others → number_taken first (others - 1) each n ≡ number_of_choices others each n
number_taken-whole first others each n is some =
    let whole : each - 0 ≡ each = omega arith in
    let e : suc (others - 1) ≡ others = omega arith in
    ap (λ a. number_taken a (others - 1) each n) (is ∙ whole) ∙ ap (λ a. number_of_choices a each n) e

-- what follows of an answer, where it is one
pub on_ok : {A E : Type 0} (r : Result A E) (P Q : Type 0) → (P → Q) → OnOk r P → OnOk r Q
on_ok (Ok v) P Q f p = f p
on_ok (Err e) P Q f p = tt

-- a list behind a zero
pub front_zero : (xs ys : List ℕ) → 0 < length xs → set (put_mid 1 (length xs - 1) xs ys) 0 0 ≡ 0 ∷ ys
front_zero [] ys l = absurd (omega arith)
front_zero (x ∷ xs) ys l =
    ap (λ (zs : List ℕ). 0 ∷ (ys ++ zs)) (drop_of_length-le xs (let m : length xs ≤ length (x ∷ xs) - 1 = omega arith in m)) ∙ ap (λ (zs : List ℕ). 0 ∷ zs) (append-nil ys)
