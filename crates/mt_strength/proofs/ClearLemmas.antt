-- What clearing all rows that may follow leaves.
use Rattle.std.proofs.Common.{◌≡◌, ◌≢◌, inl, inr, ℕ, zero, suc, ◌+◌, ◌-◌, ◌*◌, ◌<◌, ◌≤◌, List, get_or, sym, ap, ◌∙◌, subst, arith}
use Rattle.std.proofs.lemmas.Bool.{cases_eq}
use Rattle.std.proofs.Math.Nat.{mul-le-mul_right}
use Rattle.mt_linear.specs.declared.order.Order.{Order}
use Rattle.mt_linear.specs.Field.{neg_of, inv_of}
use Rattle.mt_strength.specs.Lanes.{IsLane, IsLanes, digit_of, digit_at}
use Rattle.mt_strength.specs.Pivots.{HasMultiples, IsPivot, IsCleared}
use Rattle.mt_strength.specs.Lanes.{row_at}
use Rattle.mt_strength.specs.Walks.{IsLeft, SomeLeft, NoneLeft, AreLeft, IsLastGone, clearing}
use Rattle.mt_strength.proofs.ByteLemmas.{row_byte}

pub first_byte : (rows : List ℕ) (place : ℕ) → place < 32 → get_or (row_at rows 0) place 0 ≡ get_or rows place 0
first_byte rows place l = row_byte rows 0 place l ∙ ap (λ i. get_or rows i 0) (let e : 32 * 0 + place ≡ place = omega arith in e)

pub first_lane : (o : Order) (rows : List ℕ) (place : ℕ) → place < 32 → IsLanes o (row_at rows 0) → IsLane o (get_or rows place 0)
first_lane o rows place l h = subst (IsLane o) (first_byte rows place l) (h.each place)

pub first_digit : (o : Order) (rows : List ℕ) (place : ℕ) → place < 32 → digit_at o (row_at rows 0) place ≡ digit_of o (get_or rows place 0)
first_digit o rows place l = ap (digit_of o) (first_byte rows place l)

pub clearing_is : (o : Order) (rows : List ℕ) (place f : ℕ) → place < 32 → f ≡ neg_of o (inv_of o (digit_of o (get_or rows place 0))) → f ≡ clearing o rows place
clearing_is o rows place f l e = e ∙ ap (λ d. neg_of o (inv_of o d)) (sym (first_digit o rows place l))

pub pivot_by : (o : Order) (rows v : List ℕ) (place f : ℕ) (all : List ℕ) → v ≡ row_at rows 0 → IsLanes o (row_at rows 0) → place < 32 → digit_at o (row_at rows 0) place ≢ 0
    → f ≡ clearing o rows place → HasMultiples o v all → IsPivot o v place f all
pivot_by o rows v place f all is_v lanes l some is_f multiples =
    let at_row : IsPivot o (row_at rows 0) place f all = record {
      lanes = lanes;
      within = l;
      some = some;
      clears = is_f;
      multiples = subst (λ (r : List ℕ). HasMultiples o r all) is_v multiples;
    } in
    subst (λ (r : List ℕ). IsPivot o r place f all) (sym is_v) at_row

pub cleared_as : (o : Order) (rows v : List ℕ) (place f : ℕ) (r w u : List ℕ) → v ≡ row_at rows 0 → f ≡ clearing o rows place → w ≡ u → IsCleared o v place f r w
    → IsCleared o (row_at rows 0) place (clearing o rows place) r u
cleared_as o rows v place f r w u is_v is_f is_w h =
    subst (λ (x : List ℕ). IsCleared o (row_at rows 0) place (clearing o rows place) r x) is_w
    (subst (λ n. IsCleared o (row_at rows 0) place n r w) is_f (subst (λ (x : List ℕ). IsCleared o x place f r w) is_v h))

-- one coordinate more
pub more_left : (o : Order) (rows : List ℕ) (first i each place : ℕ) (old new : List ℕ) (kept width : ℕ) → IsLeft o rows first i each place old kept width
    → ((j : ℕ) → j < width → IsCleared o (row_at rows 0) place (clearing o rows place) (row_at rows (first + i * each + j)) (row_at new (kept + i * width + j)))
    → ((j : ℕ) → j < kept + i * width → row_at new j ≡ row_at old j)
    → IsLeft o rows first (i + 1) each place new kept width
more_left o rows first i each place old new kept width left done before = record {
  of_first = λ j l. subst (λ (x : List ℕ). IsCleared o (row_at rows 0) place (clearing o rows place) (row_at rows (1 + j)) x) (sym (before j (omega arith))) (left.of_first j l);
  of_others = λ n j l m. elim (cases_eq n i) [
    | inl e ↦ rw e (done j m)
    | inr ne ↦
        let below : (n + 1) * width ≤ i * width = mul-le-mul_right width (let h : n + 1 ≤ i = omega arith in h) in
        subst (λ (x : List ℕ). IsCleared o (row_at rows 0) place (clearing o rows place) (row_at rows (first + n * each + j)) x) (sym (before (kept + n * width + j) (omega arith))) (left.of_others n j (omega arith) m)
  ];
}

-- one coordinate more of which something is left
pub one_left : (o : Order) (rows : List ℕ) (first others each place i : ℕ) → 0 < i → SomeLeft o rows place (first + (i - 1) * each) → AreLeft o rows first others each place (i + 1)
    → AreLeft o rows first others each place (i - 1 + 1)
one_left o rows first others each place i some left later zero l h = absurd (omega arith)
one_left o rows first others each place i some left later (suc j) l h =
    elim (cases_eq (suc j) i) [
      | inl e ↦ subst (λ m. SomeLeft o rows place (first + m * each)) (let f : i - 1 ≡ j = omega arith in f) left
      | inr ne ↦ later (suc j) (omega arith) h
    ]

-- the first coordinate last
pub all_left : (o : Order) (rows : List ℕ) (first others each place i : ℕ) → i ≡ 0 → (1 < first → SomeLeft o rows place 1) → AreLeft o rows first others each place (i + 1)
    → AreLeft o rows first others each place 0
all_left o rows first others each place i none left later zero l h = left h
all_left o rows first others each place i none left later (suc j) l h = later (suc j) (omega arith) h

pub gone_at : (o : Order) (rows : List ℕ) (first others each place i : ℕ) → 0 < i → i ≤ others → 0 < each → NoneLeft o rows place (first + (i - 1) * each)
    → AreLeft o rows first others each place (i + 1) → IsLastGone o rows first others each place i
gone_at o rows first others each place zero some within rows_each none later = absurd (omega arith)
gone_at o rows first others each place (suc i) some within rows_each none later = record {
  next = (omega arith, rows_each);
  gone = subst (λ m. NoneLeft o rows place (first + m * each)) (let e : suc i - 1 ≡ i = omega arith in e) none;
  later = later;
}
