-- The rows of a system as bytes, and its strength by them.
use Rattle.std.proofs.Common.{◌≡◌, inl, inr, ℕ, zero, suc, ◌+◌, ◌-◌, ◌*◌, ◌<◌, ◌≤◌, List, length, get_or, take, drop, map, sum, min, replicate, sym, ap, ◌∙◌, subst, arith}
use Rattle.std.proofs.lemmas.Bool.{cases_eq, cases_lt}
use Rattle.std.proofs.lemmas.List.{get_or_past, length-take, get_or-take, get_or-drop}
use Rattle.std.proofs.lemmas.Simd.{get_or-replicate}
use Rattle.std.proofs.Math.Nat.{mul-le-mul_right}
use Rattle.mt_linear.specs.declared.order.Order.{Order}
use Rattle.mt_linear.specs.Field.{number_of}
use Rattle.mt_linear.proofs.FieldLaws.{number_pos}
use Rattle.mt_linear.specs.Linear.{AllElements, Independent}
use Rattle.mt_system.specs.Choices.{IsChoice}
use Rattle.mt_system.specs.Rows.{Matrices, rows_by, part_rows, row_of}
use Rattle.mt_strength.specs.Lanes.{HasLanes, IsLanes, lane_of, digit_of}
use Rattle.mt_strength.specs.Lanes.{row_at}
use Rattle.mt_strength.specs.Walks.{IsLaid, digits_in}
use Rattle.mt_strength.specs.FirstChoices.{IsLeastFound, AllChoicesIndependent, IsFirstChoice}
use Rattle.mt_strength.specs.Searches.{AllIndependent}
use Rattle.mt_strength.specs.PackedRows.{IsPacked}
use Rattle.mt_strength.proofs.ByteLemmas.{IsLanes-by, digit_at-by, digit_past, digit_of_row}
use Rattle.mt_strength.proofs.Clearing.{Zip-rows_by, SameDigits, Independent-digits}
use Rattle.mt_strength.proofs.ClearedChoices.{inside, AllAtMost-min}
use Rattle.mt_strength.proofs.SearchLemmas.{Independent-whole, IsFirstByList-whole, Earlier-by_list}

-- one row more of coordinate i
pub rows_put : (a : Matrices) (width each i j : ℕ) (old new v : List ℕ) → IsPacked a width each i old
    → ((n : ℕ) → n < i * each + j → row_at new n ≡ row_at old n) → j < each → IsPacked a width each i new
rows_put a width each i j old new v packed before l n m h k =
    let below : (n + 1) * each ≤ i * each = mul-le-mul_right each (let g : n + 1 ≤ i = omega arith in g) in
    subst (λ (r : List ℕ). HasLanes r (λ k. lane_of a.order (get_or (part_rows a width n m) k 0))) (sym (before (n * each + m) (omega arith))) (packed n m h k)

-- all rows of one coordinate more
pub coordinate_packed : (a : Matrices) (width each i : ℕ) (rows : List ℕ) → IsPacked a width each i rows
    → ((n : ℕ) → n < each → HasLanes (row_at rows (i * each + n)) (λ k. lane_of a.order (get_or (part_rows a width i n) k 0))) → IsPacked a width each (i + 1) rows
coordinate_packed a width each i rows packed more n m h k = elim (cases_eq n i) [ inl e ↦ rw e (more m k) | inr ne ↦ packed n m (omega arith) k ]

pub zeros_at : (n : ℕ) → ◌≡◌ {A = ℕ} (get_or {A = ℕ} (replicate {A = ℕ} 32 0) n 0) 0
zeros_at n = elim (cases_lt n 32) [ inl l ↦ get_or-replicate {A = ℕ} 32 n 0 0 l | inr l ↦ get_or_past {X = ℕ} (replicate {A = ℕ} 32 0) n 0 l ]

pub more_rows : (a : Matrices) (width each i j : ℕ) (old new v r : List ℕ) (o : Order)
    → ((n : ℕ) → n < j → HasLanes (row_at old (i * each + n)) (λ k. lane_of a.order (get_or (part_rows a width i n) k 0)))
    → ((n : ℕ) → n < i * each + j → row_at new n ≡ row_at old n) → row_at new (i * each + j) ≡ v
    → HasLanes v (λ k. lane_of o (get_or (take width r) k 0)) → o ≡ a.order → r ≡ row_of a i (j + 1 - 1)
    → (n : ℕ) → n < j + 1 → HasLanes (row_at new (i * each + n)) (λ k. lane_of a.order (get_or (part_rows a width i n) k 0))
more_rows a width each i j old new v r o more before done lanes is_order is_row n l =
    elim (cases_eq n j) [
      | inl e ↦
          let e' : j + 1 - 1 ≡ n = omega arith in
          let at : row_at new (i * each + n) ≡ v = ap (λ m. row_at new (i * each + m)) e ∙ done in
          rw at (subst (λ (q : Order). HasLanes v (λ k. lane_of q (get_or (part_rows a width i n) k 0))) is_order
          (subst (λ (x : List ℕ). HasLanes v (λ k. lane_of o (get_or (take width x) k 0))) (is_row ∙ ap (row_of a i) e') lanes))
      | inr ne ↦ subst (λ (x : List ℕ). HasLanes x (λ k. lane_of a.order (get_or (part_rows a width i n) k 0))) (sym (before (i * each + n) (omega arith))) (more n (omega arith))
    ]

-- rows laid out by coordinate
pub IsLaid-packed : (a : Matrices) (width each s : ℕ) (rows : List ℕ) → 0 < s → IsPacked a width each s rows → length rows ≡ 32 * (s * each)
    → ((i j k : ℕ) → get_or (part_rows a width i j) k 0 < number_of a.order) → IsLaid a.order rows each (s - 1) each
IsLaid-packed a width each s rows some packed size elements =
    let e : s ≡ (s - 1) + 1 = omega arith in
    let split : s * each ≡ (s - 1) * each + each = ap (λ n. n * each) e ∙ omega arith in
    let at : (i j : ℕ) → i < s → j < each → IsLanes a.order (row_at rows (i * each + j)) = λ i j l m.
    IsLanes-by a.order (row_at rows (i * each + j)) (λ k. get_or (part_rows a width i j) k 0) (packed i j l m) (elements i j) in
    record {
      size = omega arith;
      of_first = λ j l. subst (λ n. IsLanes a.order (row_at rows n)) (let h : 0 * each + j ≡ j = omega arith in h) (at 0 j some l);
      of_others = λ i j l m. subst (λ n. IsLanes a.order (row_at rows n)) (let h : (i + 1) * each + j ≡ each + i * each + j = omega arith in h) (at (i + 1) j (omega arith) m);
    }

-- the digits of the rows are those of the system
module _ (a : Matrices) (width each s : ℕ) (rows : List ℕ) (packed : IsPacked a width each s rows) (narrow : width ≤ 32)
    (elements : (i j k : ℕ) → get_or (part_rows a width i j) k 0 < number_of a.order) where
  same_at : (i j n : ℕ) → i < s → j < each → n ≡ i * each + j → SameDigits (part_rows a width i j) (map (digit_of a.order) (row_at rows n))
  same_at i j n l m e k =
      let o = a.order in
      let f : ℕ → ℕ = λ k. get_or (part_rows a width i j) k 0 in
      let lanes : HasLanes (row_at rows n) (λ k. lane_of o (f k)) = rw e (packed i j l m) in
      elim (cases_lt k 32) [
        | inl h ↦ sym (digit_of_row o (row_at rows n) k ∙ digit_at-by o (row_at rows n) f k lanes (elements i j k) h)
        | inr h ↦ get_or_past (part_rows a width i j) k 0 (omega (arith, length-take width (row_of a i j)))
            ∙ sym (digit_of_row o (row_at rows n) k ∙ digit_past o (row_at rows n) k lanes.long h)
      ]

  same_digits : (i j : ℕ) → i < s → j < each → SameDigits (part_rows a width i j) (digits_in a.order rows each each i j)
  same_digits zero j l m = same_at 0 j j l m (let h : j ≡ 0 * each + j = omega arith in h)
  same_digits (suc i) j l m =
      same_at (suc i) j (each + i * each + j) l m (let h : each + i * each + j ≡ (i + 1) * each + j = omega arith in h ∙ ap (λ n. n * each + j) (let g : i + 1 ≡ suc i = omega arith in g))

  module _ (depth k : ℕ) (is_each : each ≡ min depth k) (c : List ℕ) (choice : IsChoice s depth c) (size : sum c ≤ k) where
    inside_choice : (i j : ℕ) → j < get_or c i 0 → (i < s) × (j < each)
    inside_choice = inside s each c choice.coordinates (rw is_each (AllAtMost-min depth k c choice.at_most size))

    -- a choice of the bytes is a choice of the rows
    pub independent_rows : Independent a.order (rows_by (digits_in a.order rows each each) c) → Independent a.order (rows_by (part_rows a width) c)
    independent_rows =
        Independent-digits a.order (rows_by (part_rows a width) c) (rows_by (digits_in a.order rows each each) c)
        (Zip-rows_by SameDigits (part_rows a width) (digits_in a.order rows each each) c (λ i j l. let h = inside_choice i j l in same_digits i j h.0 h.1))

    pub independent_bytes : Independent a.order (rows_by (part_rows a width) c) → Independent a.order (rows_by (digits_in a.order rows each each) c)
    independent_bytes =
        Independent-digits a.order (rows_by (digits_in a.order rows each each) c) (rows_by (part_rows a width) c)
        (Zip-rows_by SameDigits (digits_in a.order rows each each) (part_rows a width) c (λ i j l. let h = inside_choice i j l in λ n. sym (same_digits i j h.0 h.1 n)))

AllElements-take : (o : Order) (v : List ℕ) (n : ℕ) → AllElements o v → AllElements o (take n v)
AllElements-take o v n h k = elim (cases_lt k n) [
  | inl l ↦ rw (get_or-take n v k 0 l) (h k)
  | inr l ↦ rw (get_or_past (take n v) k 0 (omega (arith, length-take n v))) (number_pos o)
]

AllElements-drop : (o : Order) (v : List ℕ) (n : ℕ) → AllElements o v → AllElements o (drop n v)
AllElements-drop o v n h k = rw (get_or-drop n v k 0) (h (n + k))

pub elements_of_rows : (a : Matrices) (width : ℕ) → AllElements a.order a.digits → (i j : ℕ) → AllElements a.order (part_rows a width i j)
elements_of_rows a width h i j = AllElements-take a.order _ width (AllElements-take a.order _ a.columns (AllElements-drop a.order a.digits ((i * a.depth + j) * a.columns) h))

pub laid_packed : (a : Matrices) (o : Order) (width each s : ℕ) (rows items : List ℕ) → o ≡ a.order → rows ≡ items → s ≡ a.coordinates → 0 < s → IsPacked a width each a.coordinates items → length items ≡ 32 * (a.coordinates * each)
    → AllElements a.order a.digits → IsLaid o rows each (s - 1) each
laid_packed a o width each s rows items is_o is_rows is_s some packed size elements =
    rw (is_o, is_rows, is_s) (IsLaid-packed a width each a.coordinates items (rw is_s at some) packed size (elements_of_rows a width elements))

module _ (a : Matrices) (width each others depth k : ℕ) (items : List ℕ) (is_s : a.coordinates ≡ suc others) (packed : IsPacked a width each a.coordinates items)
    (elements : AllElements a.order a.digits) (narrow : width ≤ 32) (is_each : each ≡ min depth k) where
  as_choice : (c : List ℕ) → IsChoice a.coordinates depth c → IsChoice (suc others) depth c
  as_choice c = subst (λ n. IsChoice n depth c) is_s

  pub all_packed : AllIndependent a.order (rows_by (digits_in a.order items each each)) each others each k → AllChoicesIndependent a width depth k
  all_packed all c choice size =
      independent_rows a width each a.coordinates items packed narrow (elements_of_rows a width elements) depth k is_each c choice size
      (Independent-whole a.order (rows_by (digits_in a.order items each each)) others depth each k (rw is_each (omega arith)) all c (as_choice c choice) size)

  pub first_packed : (c : List ℕ) → IsLeastFound a.order (rows_by (digits_in a.order items each each)) others each k c → IsFirstChoice a width depth k c
  first_packed c least =
      let o = a.order in
      let R = rows_by (digits_in o items each each) in
      let size = least.size in
      let high : each ≤ depth = rw is_each (omega arith) in
      let enough : (n : ℕ) → n ≤ k → min depth n ≤ each = λ n l. rw is_each (omega arith) in
      let by_list = IsFirstByList-whole o R others depth each (sum c) c high (enough (sum c) size) least.found in
      let choice : IsChoice a.coordinates depth c = subst (λ n. IsChoice n depth c) (sym is_s) by_list.choice in
      let earlier = Earlier-by_list o (suc others) depth (sum c) k R c by_list
      (λ d is l. Independent-whole o R others depth each (sum c - 1) (enough (sum c - 1) (omega arith)) least.lesser d is (omega arith)) in
      record {
        choice = choice;
        size = size;
        dependent = λ independent. by_list.dependent
            (independent_bytes a width each a.coordinates items packed narrow (elements_of_rows a width elements) depth k is_each c choice size independent);
        earlier = λ d is small before.
            independent_rows a width each a.coordinates items packed narrow (elements_of_rows a width elements) depth k is_each d is small
            (earlier d (as_choice d is) small before);
      }
