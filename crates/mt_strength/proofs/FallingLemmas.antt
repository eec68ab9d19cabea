-- One search after another, among ever fewer rows.
use Rattle.std.proofs.Common.{◌≡◌, inl, inr, ℕ, ◌-◌, ◌<◌, ◌≤◌, List, [], ◌∷◌, sum, sym, ap, ◌∙◌, subst, arith}
use Rattle.std.proofs.lemmas.Bool.{cases_eq}
use Rattle.mt_linear.specs.declared.order.Order.{Order}
use Rattle.mt_linear.specs.Linear.{Independent}
use Rattle.mt_linear.proofs.Reduction.{Independent-nil}
use Rattle.mt_system.specs.Rows.{rows_by}
use Rattle.mt_system.proofs.ChoiceOrder.{sum-cons}
use Rattle.mt_strength.specs.FirstChoices.{IsLeastFound}
use Rattle.mt_strength.specs.Searches.{AllIndependent, IsFound}
use Rattle.mt_strength.proofs.RowLemmas.{no_rows}

-- what was found is found among the choices of as many rows too
pub found_size : (o : Order) (R : List ℕ → List (List ℕ)) (first others each n : ℕ) (c : List ℕ) → IsFound o R first others each n c → sum c ≤ n
found_size o R first others each n [] found = absurd found
found_size o R first others each n (c ∷ cs) found = omega (arith, found.taken.size, sum-cons c cs)

pub found_sum : (o : Order) (R : List ℕ → List (List ℕ)) (first others each n : ℕ) (c : List ℕ) → IsFound o R first others each n c → IsFound o R first others each (sum c) c
found_sum o R first others each n [] found = absurd found
found_sum o R first others each n (c ∷ cs) found =
    let t = found.taken in
    let size : sum (c ∷ cs) ≤ n = omega (arith, t.size, sum-cons c cs) in
    record {
      taken = record { of_first = t.of_first; coordinates = t.coordinates; at_most = t.at_most; size = omega (arith, sum-cons c cs) };
      dependent = found.dependent;
      earlier = λ d ds u before. found.earlier d ds (record { of_first = u.of_first; coordinates = u.coordinates; at_most = u.at_most; size = omega (arith, u.size) }) before;
    }

-- no row is independent
pub found_some : (o : Order) (M : ℕ → ℕ → List ℕ) (first others each n : ℕ) (c : List ℕ) → IsFound o (rows_by M) first others each n c → 0 < sum c
found_some o M first others each n [] found = absurd found
found_some o M first others each n (c ∷ cs) found =
    elim (cases_eq (sum (c ∷ cs)) 0) [
      | inl e ↦ absurd (found.dependent (subst (Independent o) (sym (no_rows M (c ∷ cs) e)) (Independent-nil o)))
      | inr ne ↦ omega arith
    ]

-- the last that was found
pub least_found : (o : Order) (R : List ℕ → List (List ℕ)) (others each k n : ℕ) (c found : List ℕ) → found ≡ c → IsFound o R each others each (sum c) c → sum c ≤ k
    → n ≡ sum found → AllIndependent o R each others each (n - 1) → IsLeastFound o R others each k found
least_found o R others each k n c found same is size total all =
    subst (IsLeastFound o R others each k) (sym same) (record {
      found = is;
      size = size;
      lesser = subst (λ m. AllIndependent o R each others each (m - 1)) (total ∙ ap sum same) all;
    })
