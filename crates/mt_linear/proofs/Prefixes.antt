-- Prefixes of the rows of a basis.
use Rattle.std.proofs.Common.{◌≡◌, inl, inr, ℕ, ◌<◌, ◌≤◌, min, List, [], ◌∷◌, ◌++◌, length, get_or, take, eqb, true, false, sym, ap, ◌∙◌, subst, arith, length-take, ne_eqb, eqb-true}
use Rattle.std.proofs.lemmas.Bool.{cases_lt}
use Rattle.std.proofs.lemmas.List.{take_all, take-take, take-append-le, length_push, take-map, length-map, get_or-map, get_or_read}
use Rattle.std.proofs.lemmas.List.Folds.{Any-from_list_any}
use Rattle.std.proofs.lemmas.Map.Steps.{length-le_from_distinct_below}
use Rattle.std.proofs.lemmas.Map.Keys.{IsDistinct-from_apart}
use Rattle.std.specs.List.{list_any}
use Rattle.mt_linear.specs.declared.order.Order.{Order}
use Rattle.mt_linear.specs.declared.basis_rows.Row.{Row}
use Rattle.mt_linear.specs.Reduced.{AreBasis, IsBasis, IsReduced, vectors_of, pivots_of}

pub IsBasis-whole : (o : Order) (m : ℕ) (rows : List Row) → IsBasis o m rows → AreBasis o m rows
IsBasis-whole o m rows h = subst (λ (r : List Row). AreBasis o m r) (take_all (length rows) rows (omega arith)) (h (length rows) (omega arith))

pub IsBasis-push : (o : Order) (m : ℕ) (rows : List Row) (row : Row) → IsBasis o m rows → AreBasis o m (rows ++ row ∷ []) → IsBasis o m (rows ++ row ∷ [])
IsBasis-push o m rows row h last n l =
    elim (cases_lt (length rows) n) [
      | inl m1 ↦ subst (λ (r : List Row). AreBasis o m r) (sym (take_all n (rows ++ row ∷ []) (omega (arith, length_push rows row)))) last
      | inr m1 ↦ subst (λ (r : List Row). AreBasis o m r) (sym (take-append-le n rows (row ∷ []) m1)) (h n m1)
    ]

pub IsBasis-take : (o : Order) (m : ℕ) (rows : List Row) (mark : ℕ) → IsBasis o m rows → IsBasis o m (take mark rows)
IsBasis-take o m rows mark h n l =
    let size : length (take mark rows) ≡ min mark (length rows) = length-take mark rows in
    subst (λ (r : List Row). AreBasis o m r) (sym (take-take n mark rows (omega arith))) (h n (omega arith))

pub vectors_take : (rows : List Row) (mark : ℕ) → vectors_of (take mark rows) ≡ take mark (vectors_of rows)
vectors_take rows mark = sym (take-map (λ (r : Row). r.vector.items) mark rows)

-- pivots are distinct places below m, so there are at most m rows
rows_few_at : (o : Order) (m : ℕ) (rows : List Row) (no_row : Row) → IsReduced o m rows → length rows ≤ m
rows_few_at o m rows no_row is =
    let ps = pivots_of rows in
    let size : length ps ≡ length rows = length-map rows (λ (r : Row). r.pivot) in
    let apart : (i j : ℕ) (d : ℕ) → i < j → j < length ps → eqb (get_or ps i d) (get_or ps j d) ≡ false = λ i j d l k.
    ne_eqb (get_or ps i d) (get_or ps j d) (λ e.
    let j_in : j < length rows = omega arith in
    let i_in : i < length rows = omega arith in
    let row = get_or rows j no_row in
    let early = get_or rows i no_row in
    let same : row.pivot ≡ early.pivot = sym (get_or-map (λ (r : Row). r.pivot) rows j no_row d j_in) ∙ sym e ∙ get_or-map (λ (r : Row). r.pivot) rows i no_row d i_in in
    let one : get_or row.reduced.items early.pivot 0 ≡ 1 = ap (λ p. get_or row.reduced.items p 0) (sym same) ∙ (is.each j no_row j_in).one_at_pivot in
    let zero_there : get_or row.reduced.items early.pivot 0 ≡ 0 = is.cleared i j no_row l j_in in
    absurd (omega arith)) in
    let below : (q : ℕ) → list_any (eqb q) ps ≡ true → q < m = λ q h.
    let f = Any-from_list_any (eqb q) ps h in
    let k_in : f.0 < length ps = f.2 in
    let at_zero : get_or ps f.0 0 ≡ q =
    sym (get_or_read ps f.0 f.1 k_in (sym f.3) 0) ∙ sym (eqb-true q f.1 f.4) in
    let pivot : (get_or rows f.0 no_row).pivot < m = (is.each f.0 no_row (omega arith)).pivot_in in
    subst (λ n. n < m) (sym (get_or-map (λ (r : Row). r.pivot) rows f.0 no_row 0 (omega arith)) ∙ at_zero) pivot in
    omega (arith, length-le_from_distinct_below ps m (IsDistinct-from_apart eqb ps apart) below)

pub rows_few : (o : Order) (m : ℕ) (rows : List Row) → IsReduced o m rows → length rows ≤ m
rows_few o m [] is = omega arith
rows_few o m (r ∷ rs) is = rows_few_at o m (r ∷ rs) r is
