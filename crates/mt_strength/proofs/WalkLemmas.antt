-- Choices with and without a row of the first coordinate, and the rows and the room that a walk hands on.
use Rattle.std.proofs.Common.{◌≡◌, ◌≢◌, inl, ℕ, suc, ◌+◌, ◌-◌, ◌*◌, ◌<◌, ◌≤◌, List, [], ◌∷◌, length, get_or, take, drop, sym, ap, ◌∙◌, subst, arith, length-drop}
use Rattle.std.proofs.lemmas.List.{take_all}
use Rattle.std.proofs.Math.ListN.{set}
use Rattle.std.proofs.Math.Nat.{mul-le-mul_left}
use Rattle.mt_linear.specs.declared.order.Order.{Order}
use Rattle.mt_linear.specs.Linear.{Independent}
use Rattle.mt_linear.proofs.Reduction.{Independent-nil}
use Rattle.mt_system.specs.Rows.{rows_by}
use Rattle.mt_strength.specs.Lanes.{row_at, IsLanes, lane_of, digit_at}
use Rattle.mt_strength.specs.Searches.{AllIndependent, IsFound}
use Rattle.mt_strength.specs.Walks.{IsLaid, IsLeft, OthersIndependent, digits_in}
use Rattle.mt_strength.proofs.ClearedChoices.{no_rows_taken}
use Rattle.mt_strength.proofs.SearchLemmas.{raised, AllIndependent-none, AllIndependent-both, IsFound-raised}
use Rattle.mt_strength.proofs.SumLemmas.{lane_zero}

-- no row of the first coordinate, or none at all
pub all_others : (o : Order) (rows : List ℕ) (first others each n : ℕ) → first ≡ 0
    → OthersIndependent o (rows_by (digits_in o rows first each)) first others each n → AllIndependent o (rows_by (digits_in o rows first each)) first others each n
all_others o rows first others each n e without = AllIndependent-none o (rows_by (digits_in o rows first each)) first others each n (inl e) without

pub all_empty : (o : Order) (M : ℕ → ℕ → List ℕ) (first others each n : ℕ) → n ≡ 0 → AllIndependent o (rows_by M) first others each n
all_empty o M first others each n e = λ c cs t. let l = t.size in subst (Independent o) (sym (no_rows_taken M c cs (omega arith))) (Independent-nil o)

-- choices with a row of the first coordinate, and choices without
pub all_raised : (o : Order) (R : List ℕ → List (List ℕ)) (first others each n : ℕ) → 0 < first → 0 < n → OthersIndependent o R first others each n
    → AllIndependent o (λ d. R (raised d)) (first - 1) others each (n - 1) → AllIndependent o R first others each n
all_raised o R first others each n some rows without all =
    let e : suc (first - 1) ≡ first = omega arith in
    let f : suc (n - 1) ≡ n = omega arith in
    subst (λ m. AllIndependent o R m others each n) e (subst (λ m. AllIndependent o R (suc (first - 1)) others each m) f
    (AllIndependent-both o R (first - 1) others each (n - 1)
    (subst (λ m. OthersIndependent o R m others each (suc (n - 1))) (sym e) (subst (λ m. OthersIndependent o R first others each m) (sym f) without)) all))

pub found_raised : (o : Order) (R : List ℕ → List (List ℕ)) (first others each n : ℕ) (sizes raise : List ℕ) → 0 < first → 0 < n → OthersIndependent o R first others each n
    → IsFound o (λ d. R (raised d)) (first - 1) others each (n - 1) sizes → raise ≡ set sizes 0 (get_or sizes 0 0 + 1) → IsFound o R first others each n raise
found_raised o R first others each n [] raise some rows without found is = absurd found
found_raised o R first others each n (c ∷ cs) raise some rows without found is =
    let e : suc (first - 1) ≡ first = omega arith in
    let f : suc (n - 1) ≡ n = omega arith in
    let more : suc c ≡ c + 1 = omega arith in
    subst (IsFound o R first others each n) (ap (λ d. d ∷ cs) more ∙ sym is)
    (subst (λ m. IsFound o R m others each n (suc c ∷ cs)) e (subst (λ m. IsFound o R (suc (first - 1)) others each m (suc c ∷ cs)) f
    (IsFound-raised o R (first - 1) others each (n - 1) c cs
    (subst (λ m. OthersIndependent o R m others each (suc (n - 1))) (sym e) (subst (λ m. OthersIndependent o R first others each m) (sym f) without)) found)))

-- a slice to the end
pub slice_behind : (rows : List ℕ) (n : ℕ) → take (length rows - n) (drop n rows) ≡ drop n rows
slice_behind rows n = take_all (length rows - n) (drop n rows) (omega (arith, length-drop n rows))

pub IsLaid-left : (o : Order) (rows : List ℕ) (first others each place : ℕ) (next : List ℕ) (kept width : ℕ) → length next ≡ 32 * (kept + others * width)
    → IsLeft o rows first others each place next kept width → IsLaid o next kept others width
IsLaid-left o rows first others each place next kept width size left = record {
  size = size;
  of_first = λ j l. (left.of_first j l).lanes;
  of_others = λ i j l m. (left.of_others i j l m).lanes;
}

-- there is room for one row less
pub room_behind : (rows : List ℕ) (first n room : ℕ) → (n - 1) * length rows ≤ room → (n - 1) * length (drop (32 * first) rows) ≤ room
room_behind rows first n room l =
    let h : length (drop (32 * first) rows) ≤ length rows = omega (arith, length-drop (32 * first) rows) in
    let m = mul-le-mul_left (n - 1) h in
    omega arith

pub room_left : (whole part n room rest : ℕ) → 1 < n → (n - 1) * whole ≤ room → part ≤ whole → rest + part ≡ room → (n - 1 - 1) * part ≤ rest
room_left whole part n room rest l m s e =
    let h = mul-le-mul_left (n - 1) s in
    let k : n - 1 ≡ (n - 1 - 1) + 1 = omega arith in
    let p : (n - 1) * part ≡ (n - 1 - 1) * part + part = ap (λ x. x * part) k ∙ omega arith in
    omega arith

pub digit_some : (o : Order) (rows v : List ℕ) (place : ℕ) → v ≡ row_at rows 0 → IsLanes o (row_at rows 0) → get_or v place 0 ≢ 0 → digit_at o (row_at rows 0) place ≢ 0
digit_some o rows v place is_v lanes some e = some (ap (λ (r : List ℕ). get_or r place 0) is_v ∙ sym (lanes.each place).lane ∙ ap (lane_of o) e ∙ lane_zero o)
