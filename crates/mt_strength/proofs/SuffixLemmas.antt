-- The coordinates from one on, and the rows, the choices and the sizes of them.
use Rattle.std.proofs.Common.{◌≡◌, ℕ, zero, suc, ◌+◌, ◌-◌, ◌*◌, ◌≤◌, List, [], ◌∷◌, ◌++◌, length, take, drop, map, replicate, refl, sym, ap, ap₂, ◌∙◌, subst, arith, length-drop, length-append, append-nil}
use Rattle.std.proofs.lemmas.List.{drop_at, drop_all, length-take-le}
use Rattle.std.proofs.Math.Nat.{mul-le-mul_right}
use borrow.Rule.Slice.PartMut.{put_mid}
use Rattle.mt_linear.specs.declared.order.Order.{Order}
use Rattle.mt_linear.proofs.Reduction.{Independent-nil}
use Rattle.mt_system.specs.Rows.{rows_by}
use Rattle.mt_strength.specs.Lanes.{row_at, IsLanes, digit_of}
use Rattle.mt_strength.specs.Searches.{AllIndependent, IsFound}
use Rattle.mt_strength.specs.Walks.{IsLaid, OthersIndependent, place_of, start_of, count_of, digits_in}
use Rattle.mt_strength.proofs.ByteLemmas.{row_drop}
use Rattle.mt_strength.proofs.SearchLemmas.{WithoutFirst-single, WithoutFirst-behind, IsFound-behind}

-- the rows of the coordinates from i on
abbrev pub suffix : (ℕ → ℕ → List ℕ) → ℕ → ℕ → ℕ → List ℕ
suffix M i a b = M (a + i) b

place_suffix : (first each i a b : ℕ) → start_of first each i + place_of (count_of first each i) each a b ≡ place_of first each (a + i) b
place_suffix first each zero zero b = omega arith
place_suffix first each zero (suc a) b = let e : suc a ≡ suc a + 0 = omega arith in (let z : 0 + (first + a * each + b) ≡ first + a * each + b = omega arith in z) ∙ ap (λ m. place_of first each m b) e
place_suffix first each (suc i) zero b = let e : suc i ≡ 0 + suc i = omega arith in ap (λ m. place_of first each m b) e
place_suffix first each (suc i) (suc a) b =
    let e : suc (a + suc i) ≡ suc a + suc i = omega arith in
    (let z : first + i * each + (each + a * each + b) ≡ first + (a + (i + 1)) * each + b = omega arith in z)
    ∙ ap (λ m. first + (a + m) * each + b) (let s : i + 1 ≡ suc i = omega arith in s)
    ∙ ap (λ m. place_of first each m b) e

suffix_is : (o : Order) (rows : List ℕ) (first each i : ℕ) → digits_in o (drop (32 * start_of first each i) rows) (count_of first each i) each ≡ suffix (digits_in o rows first each) i
suffix_is o rows first each i = λ k a b.
    (ap (map (digit_of o)) (row_drop rows (start_of first each i) (place_of (count_of first each i) each a b) ∙ ap (row_at rows) (place_suffix first each i a b))) k

suffix_next : (M : ℕ → ℕ → List ℕ) (i : ℕ) → suffix M (suc i) ≡ (λ a. suffix M i (suc a))
suffix_next M i = λ k a b. (ap (λ m. M m b) (let e : a + suc i ≡ suc a + i = omega arith in e)) k

suffix_whole : (M : ℕ → ℕ → List ℕ) → suffix M 0 ≡ M
suffix_whole M = λ k a b. (ap (λ m. M m b) (let e : a + 0 ≡ a = omega arith in e)) k

pub all_suffix : (o : Order) (rows : List ℕ) (first others each n i : ℕ) → AllIndependent o (rows_by (digits_in o (drop (32 * start_of first each i) rows) (count_of first each i) each)) (count_of first each i) (others - i) each n
    → AllIndependent o (rows_by (suffix (digits_in o rows first each) i)) (count_of first each i) (others - i) each n
all_suffix o rows first others each n i = subst (λ (N : ℕ → ℕ → List ℕ). AllIndependent o (rows_by N) (count_of first each i) (others - i) each n) (suffix_is o rows first each i)

pub all_whole : (o : Order) (M : ℕ → ℕ → List ℕ) (first others each n i : ℕ) → i ≡ 0 → AllIndependent o (rows_by (suffix M i)) (count_of first each i) (others - i) each n → AllIndependent o (rows_by M) first others each n
all_whole o M first others each n zero e all =
    subst (λ m. AllIndependent o (rows_by M) first m each n) (let z : others - 0 ≡ others = omega arith in z)
    (subst (λ (N : ℕ → ℕ → List ℕ). AllIndependent o (rows_by N) first (others - 0) each n) (suffix_whole M) all)
all_whole o M first others each n (suc i) e all = absurd (omega arith)

-- what is known before coordinate i
pub others_suffix : (o : Order) (rows : List ℕ) (first others each n i : ℕ) → i ≤ others
    → (suc i ≤ others → AllIndependent o (rows_by (suffix (digits_in o rows first each) (suc i))) each (others - suc i) each n)
    → OthersIndependent o (rows_by (digits_in o (drop (32 * start_of first each i) rows) (count_of first each i) each)) (count_of first each i) (others - i) each n
others_suffix o rows first others each n i within behind =
    subst (λ (N : ℕ → ℕ → List ℕ). OthersIndependent o (rows_by N) (count_of first each i) (others - i) each n) (sym (suffix_is o rows first each i))
    (others_by (others - i) refl)
  where
    M : ℕ → ℕ → List ℕ
    M = digits_in o rows first each

    others_by : (m : ℕ) → others - i ≡ m → OthersIndependent o (rows_by (suffix (digits_in o rows first each) i)) (count_of first each i) m each n
    others_by zero e = WithoutFirst-single o (rows_by (suffix (digits_in o rows first each) i)) (count_of first each i) each n (Independent-nil o)
    others_by (suc m) e =
        let f : others - suc i ≡ m = omega arith in
        WithoutFirst-behind o (rows_by (suffix (digits_in o rows first each) i)) (count_of first each i) m each n
        (subst (λ k. AllIndependent o (rows_by (λ a. suffix (digits_in o rows first each) i (suc a))) each k each n) f
        (subst (λ (N : ℕ → ℕ → List ℕ). AllIndependent o (rows_by N) each (others - suc i) each n) (suffix_next (digits_in o rows first each) i) (behind (omega arith))))

zeros_push : (i : ℕ) (sizes : List ℕ) → replicate i 0 ++ 0 ∷ sizes ≡ 0 ∷ (replicate i 0 ++ sizes)
zeros_push zero sizes = refl
zeros_push (suc i) sizes = ap (λ (xs : List ℕ). 0 ∷ xs) (zeros_push i sizes)

found_by : (o : Order) (M : ℕ → ℕ → List ℕ) (first others each n i : ℕ) (sizes : List ℕ) → i ≤ others
    → IsFound o (rows_by (suffix M i)) (count_of first each i) (others - i) each n sizes → IsFound o (rows_by M) first others each n (replicate i 0 ++ sizes)
found_by o M first others each n zero sizes within found =
    subst (λ m. IsFound o (rows_by M) first m each n sizes) (let z : others - 0 ≡ others = omega arith in z)
    (subst (λ (N : ℕ → ℕ → List ℕ). IsFound o (rows_by N) first (others - 0) each n sizes) (suffix_whole M) found)
found_by o M first others each n (suc i) sizes within found =
    let e : suc (others - suc i) ≡ others - i = omega arith in
    subst (IsFound o (rows_by M) first others each n) (zeros_push i sizes)
    (found_by o M first others each n i (0 ∷ sizes) (omega arith)
    (subst (λ m. IsFound o (rows_by (suffix M i)) (count_of first each i) m each n (0 ∷ sizes)) e
    (IsFound-behind o (rows_by (suffix M i)) (count_of first each i) (others - suc i) each n sizes
    (subst (λ (N : ℕ → ℕ → List ℕ). IsFound o (rows_by N) each (others - suc i) each n sizes) (suffix_next M i) found))))

-- found from coordinate i on
pub found_suffix : (o : Order) (rows : List ℕ) (first others each n i : ℕ) (sizes : List ℕ) → i ≤ others
    → IsFound o (rows_by (digits_in o (drop (32 * start_of first each i) rows) (count_of first each i) each)) (count_of first each i) (others - i) each n sizes
    → IsFound o (rows_by (digits_in o rows first each)) first others each n (replicate i 0 ++ sizes)
found_suffix o rows first others each n i sizes within found =
    found_by o (digits_in o rows first each) first others each n i sizes within
    (subst (λ (N : ℕ → ℕ → List ℕ). IsFound o (rows_by N) (count_of first each i) (others - i) each n sizes) (suffix_is o rows first each i) found)

pub start_within : (first others each i len : ℕ) → i ≤ others → len ≡ 32 * (first + others * each) → 32 * start_of first each i ≤ len
start_within first others each zero len within size = omega arith
start_within first others each (suc i) len within size =
    let m : i * each ≤ others * each = mul-le-mul_right each (let h : i ≤ others = omega arith in h) in
    omega arith

pub IsLaid-suffix : (o : Order) (rows : List ℕ) (first others each i : ℕ) → i ≤ others → IsLaid o rows first others each
    → IsLaid o (drop (32 * start_of first each i) rows) (count_of first each i) (others - i) each
IsLaid-suffix o rows first others each zero within laid = subst (λ m. IsLaid o rows first m each) (let z : others ≡ others - 0 = omega arith in z) laid
IsLaid-suffix o rows first others each (suc i) within laid =
    let size = laid.size in
    let e : others ≡ (others - suc i) + (i + 1) = omega arith in
    let split : others * each ≡ (others - suc i) * each + (i * each + each) = ap (λ n. n * each) e ∙ omega arith in
    let long = length-drop (32 * (first + i * each)) rows in
    record {
      size = omega arith;
      of_first = λ j l. rw (row_drop rows (first + i * each) j) (laid.of_others i j (omega arith) l);
      of_others = λ a b l m. rw (row_drop rows (first + i * each) (each + a * each + b))
          (subst (λ k. IsLanes o (row_at rows k)) (let f : first + (a + (i + 1)) * each + b ≡ first + i * each + (each + a * each + b) = omega arith in f) (laid.of_others (a + (i + 1)) b (omega arith) m));
    }

-- zeros before coordinate i, and new sizes from it on
pub written : (sizes zeros new : List ℕ) (i : ℕ) → i ≤ length sizes → zeros ≡ replicate i 0 → zeros ++ drop i (put_mid i (length sizes - i) sizes new) ≡ replicate i 0 ++ new
written sizes zeros new i within are =
    let behind : drop i (put_mid i (length sizes - i) sizes new) ≡ new ++ drop (length sizes - i) (drop i sizes) =
    drop_at (take i sizes) (new ++ drop (length sizes - i) (drop i sizes)) i (length-take-le i sizes within) in
    let none : drop (length sizes - i) (drop i sizes) ≡ [] = drop_all (length sizes - i) (drop i sizes) (omega (arith, length-drop i sizes)) in
    ap₂ (λ (a b : List ℕ). a ++ b) are (behind ∙ ap (λ (zs : List ℕ). new ++ zs) none ∙ append-nil new)

pub length-written : (sizes new : List ℕ) (i : ℕ) → i ≤ length sizes → length new ≡ length sizes - i → length (put_mid i (length sizes - i) sizes new) ≡ length sizes
length-written sizes new i within long =
    let none : drop (length sizes - i) (drop i sizes) ≡ [] = drop_all (length sizes - i) (drop i sizes) (omega (arith, length-drop i sizes)) in
    let e : put_mid i (length sizes - i) sizes new ≡ take i sizes ++ new = ap (λ (zs : List ℕ). take i sizes ++ (new ++ zs)) none ∙ ap (λ (ys : List ℕ). take i sizes ++ ys) (append-nil new) in
    ap length e ∙ length-append (take i sizes) new ∙ omega (arith, length-take-le i sizes within)
