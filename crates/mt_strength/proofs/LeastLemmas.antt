-- Searches of fewer and fewer rows, to the least dependent choice.
use Rattle.std.proofs.Common.{◌≡◌, inl, inr, ℕ, zero, suc, ◌+◌, ◌-◌, ◌*◌, ◌<◌, ◌≤◌, List, [], ◌∷◌, ◌++◌, length, sum, true, false, None, refl, sym, ap, ap₂, ◌∙◌, subst, arith, length-append}
use Rattle.std.proofs.lemmas.Bool.{cases_eq}
use Rattle.std.proofs.lemmas.List.{length_push}
use Rattle.std.proofs.Math.Nat.{mul-le-mul_left, mul-le-mul_right}
use Rattle.mt_linear.specs.declared.order.Order.{Order}
use Rattle.mt_linear.specs.Linear.{Independent}
use Rattle.mt_system.specs.Choices.{IsChoice}
use Rattle.mt_system.specs.Counts.{number_of_choices}
use Rattle.mt_system.specs.Rows.{rows_by, first_rows}
use Rattle.mt_system.proofs.ChoiceOrder.{sum-cons}
use Rattle.mt_strength.specs.Searches.{IsFirstBySize, AllIndependent, IsFound, IsFirstByList}
use Rattle.mt_strength.specs.CountedSearch.{rows_from, rows_after, IsSearched, IsSearchedWhole, IsLeastOf}
use Rattle.mt_strength.proofs.RowLemmas.{rows_by-same, Independent-none, Passed}
use Rattle.mt_strength.proofs.SearchLemmas.{Independent-whole, IsFirstByList-whole, Earlier-by_list}
use Rattle.mt_strength.proofs.CountedLemmas.{number_rises, number_positive}

module _ (o : Order) (V : List (List ℕ)) (M : ℕ → ℕ → List ℕ) (s depth n : ℕ) (empty : V ≡ []) (some : 0 < s) where
  rows_whole : (c : List ℕ) → rows_after V M 0 0 c ≡ rows_by M c
  rows_whole c = ap (λ (xs : List (List ℕ)). xs ++ rows_by (rows_from M 0 0) c) empty ∙ rows_by-same (rows_from M 0 0) M c same
    where
      same : (a b : ℕ) → rows_from M 0 0 a b ≡ M a b
      same zero b = ap (M 0) (let e : 0 + b ≡ b = omega arith in e)
      same (suc a) b = ap (λ i. M i b) (let e : 0 + suc a ≡ suc a = omega arith in e)

  others_is : suc (s - 1) ≡ s
  others_is = omega arith

  each_is : depth - 0 ≡ depth
  each_is = omega arith

  pub whole_true : (sizes : List ℕ) → IsSearched o (rows_after V M 0 0) (depth - 0) (s - 1) depth n sizes true → IsSearchedWhole o s depth n (rows_by M) None
  whole_true sizes all c choice size =
      subst (Independent o) (rows_whole c)
      (Independent-whole o (rows_after V M 0 0) (s - 1) depth depth n (omega arith) (subst (λ m. AllIndependent o (rows_after V M 0 0) m (s - 1) depth n) each_is all)
      c (subst (λ m. IsChoice m depth c) (sym others_is) choice) size)

  pub whole_false : (sizes : List ℕ) → IsSearched o (rows_after V M 0 0) (depth - 0) (s - 1) depth n sizes false → IsFirstByList o s depth n (rows_by M) sizes
  whole_false sizes found =
      let first : IsFirstByList o s depth n (rows_after V M 0 0) sizes =
      subst (λ m. IsFirstByList o m depth n (rows_after V M 0 0) sizes) others_is
      (IsFirstByList-whole o (rows_after V M 0 0) (s - 1) depth depth n sizes (omega arith) (omega arith)
      (subst (λ m. IsFound o (rows_after V M 0 0) m (s - 1) depth n sizes) each_is found)) in
      record {
        choice = first.choice;
        size = first.size;
        dependent = λ independent. first.dependent (subst (Independent o) (sym (rows_whole sizes)) independent);
        earlier = λ d choice size before. subst (Independent o) (rows_whole d) (first.earlier d choice size before);
      }

-- a dependent choice has a row
pub some_rows : (o : Order) (s depth n : ℕ) (M : ℕ → ℕ → List ℕ) (c : List ℕ) → IsFirstByList o s depth n (rows_by M) c → 0 < sum c
some_rows o s depth n M c first =
    elim (cases_eq (sum c) 0) [
      | inl e ↦ absurd (first.dependent (Independent-none o M c (omega arith)))
      | inr ne ↦ omega arith
    ]

-- all choices of fewer rows are independent
pub least_found : (o : Order) (s depth n fewer : ℕ) (R : List ℕ → List (List ℕ)) (c : List ℕ) → IsFirstByList o s depth n R c → fewer ≡ sum c - 1
    → IsLeastOf o s depth fewer R None → IsFirstBySize o s depth n R c
least_found o s depth n fewer R c first is none = record {
  choice = first.choice;
  size = first.size;
  earlier = Earlier-by_list o s depth n n R c first (λ d choice l. none d choice (omega arith));
  dependent = first.dependent;
}

-- what was found among them
pub least_lesser : (o : Order) (s depth n fewer : ℕ) (R : List ℕ → List (List ℕ)) (c : List ℕ) → fewer ≤ n → IsFirstBySize o s depth fewer R c → IsFirstBySize o s depth n R c
least_lesser o s depth n fewer R c l least =
    let size = least.size in
    record {
      choice = least.choice;
      size = omega arith;
      earlier = λ d choice of_n before. least.earlier d choice (elim before [ inl m ↦ omega arith | inr rest ↦ let e : sum d ≡ sum c = rest.0 in omega arith ]) before;
      dependent = least.dependent;
    }

pub Passed-least : (o : Order) (s depth n : ℕ) (M : ℕ → ℕ → List ℕ) (c : List ℕ) → IsFirstBySize o s depth n (rows_by M) c → Passed o s depth n M c
Passed-least o s depth n M c least = record { choice = least.choice; size = least.size; earlier = least.earlier }

-- the steps of two searches or more
pub steps_found : (s depth n size before between after : ℕ) → 0 < size → size ≤ n → between < before + number_of_choices s depth n
    → after ≤ between + (number_of_choices s depth (size - 1) - 1) → after ≤ before + (n + 1) * (number_of_choices s depth n - 1)
steps_found s depth n size before between after some few first second =
    let rises : number_of_choices s depth (size - 1) ≤ number_of_choices s depth n = number_rises s depth (size - 1) n (omega arith) in
    let w = number_of_choices s depth n - 1 in
    let twice : 2 * w ≤ (n + 1) * w = mul-le-mul_right w (let l : 2 ≤ n + 1 = omega arith in l) in
    omega arith

pub steps_lesser : (s depth n size before between after : ℕ) → 0 < size → size ≤ n → between < before + number_of_choices s depth n
    → after ≤ between + (size - 1 + 1) * (number_of_choices s depth (size - 1) - 1) → after ≤ before + (n + 1) * (number_of_choices s depth n - 1)
steps_lesser s depth n size before between after some few first second =
    let rises : number_of_choices s depth (size - 1) ≤ number_of_choices s depth n = number_rises s depth (size - 1) n (omega arith) in
    let w = number_of_choices s depth n - 1 in
    let u = number_of_choices s depth (size - 1) - 1 in
    let smaller : (size - 1 + 1) * u ≤ (size - 1 + 1) * w = mul-le-mul_left (size - 1 + 1) (let l : u ≤ w = omega arith in l) in
    let more : (1 + (size - 1 + 1)) * w ≤ (n + 1) * w = mul-le-mul_right w (let l : 1 + (size - 1 + 1) ≤ n + 1 = omega arith in l) in
    omega arith

length_rows : (M : ℕ → ℕ → List ℕ) (c : List ℕ) → length (rows_by M c) ≡ sum c
length_rows M [] = refl
length_rows M (d ∷ ds) =
    length-append (first_rows (M 0) d) (rows_by (λ i. M (suc i)) ds)
    ∙ ap₂ (λ a b. a + b) (length_first (M 0) d) (length_rows (λ i. M (suc i)) ds)
    ∙ sym (sum-cons d ds)
  where
    length_first : (R : ℕ → List ℕ) (n : ℕ) → length (first_rows R n) ≡ n
    length_first R zero = refl
    length_first R (suc n) = let h = length_first R n in omega (arith, length_push (first_rows R n) (R n))

-- the steps for the coefficients besides
pub steps_whole : (s depth k : ℕ) (M : ℕ → ℕ → List ℕ) (c : List ℕ) (before between after rows : ℕ) → sum c ≤ k → rows ≡ length (rows_by M c)
    → between ≤ before + (k + 1) * (number_of_choices s depth k - 1) → after ≤ between + rows → after ≤ before + (k + 1) * number_of_choices s depth k
steps_whole s depth k M c before between after rows few is first second =
    let size = length_rows M c in
    let some = number_positive s depth k in
    let w = number_of_choices s depth k - 1 in
    let e : number_of_choices s depth k ≡ w + 1 = omega arith in
    let whole : (k + 1) * number_of_choices s depth k ≡ (k + 1) * w + (k + 1) = ap (λ a. (k + 1) * a) e ∙ (let d : (k + 1) * (w + 1) ≡ (k + 1) * w + (k + 1) = omega arith in d) in
    omega arith
