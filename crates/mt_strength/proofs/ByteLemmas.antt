-- Rows of 32 bytes in a list of bytes.
use Rattle.std.proofs.Common.{◌≡◌, inl, inr, ℕ, ◌+◌, ◌*◌, ◌<◌, ◌≤◌, List, length, get_or, take, drop, map, sym, ap, ap₂, ◌∙◌, arith}
use Rattle.std.specs.Simd.Lanes.{put_chunk}
use Rattle.std.proofs.lemmas.Simd.{length-chunk, get_or-chunk, length-put_chunk, get_or-put_chunk_below, get_or-put_chunk_at}
use Rattle.std.proofs.lemmas.List.{ext_get_or, get_or_past, drop-drop}
use Rattle.std.proofs.lemmas.Bool.{cases_lt}
use Rattle.std.proofs.Math.ListN.{get_or-map}
use Rattle.mt_linear.specs.declared.order.Order.{Order}
use Rattle.mt_linear.specs.Field.{number_of, add_of, mul_of}
use Rattle.mt_linear.proofs.FieldLaws.{number_pos, add_lt, mul_lt, mul_zero}
use Rattle.mt_linear.proofs.Combination.{zero_add_zero}
use Rattle.mt_strength.specs.Lanes.{HasLanes, IsLane, IsLanes, lane_of, digit_of, digit_at}
use Rattle.mt_strength.specs.Pivots.{HasMultiples, IsPivot, IsCleared}
use Rattle.mt_strength.specs.Lanes.{row_at}
use Rattle.mt_strength.proofs.SumLemmas.{digit-lane, IsLane-lane, lane_zero, digit_zero}

pub row_put : (rows v : List ℕ) (j : ℕ) → length v ≡ 32 → 32 * j + 32 ≤ length rows → row_at (put_chunk (32 * j) rows v) j ≡ v
row_put rows v j l m =
    let size = length-put_chunk (32 * j) rows v in
    let long : length (row_at (put_chunk (32 * j) rows v) j) ≡ 32 = length-chunk (32 * j) 32 (put_chunk (32 * j) rows v) (omega arith) in
    ext_get_or 0 _ v (long ∙ sym l) (λ i h.
    get_or-chunk (32 * j) 32 (put_chunk (32 * j) rows v) i 0 (omega arith)
    ∙ get_or-put_chunk_at (32 * j) rows v i 0 (omega arith) (omega arith))

pub row_before : (rows v : List ℕ) (j i : ℕ) → 32 * j + 32 ≤ length rows → i < j → row_at (put_chunk (32 * j) rows v) i ≡ row_at rows i
row_before rows v j i m l =
    let size = length-put_chunk (32 * j) rows v in
    let long : length (row_at (put_chunk (32 * j) rows v) i) ≡ 32 = length-chunk (32 * i) 32 (put_chunk (32 * j) rows v) (omega arith) in
    let long' : length (row_at rows i) ≡ 32 = length-chunk (32 * i) 32 rows (omega arith) in
    ext_get_or 0 _ (row_at rows i) (long ∙ sym long') (λ k h.
    get_or-chunk (32 * i) 32 (put_chunk (32 * j) rows v) k 0 (omega arith)
    ∙ get_or-put_chunk_below (32 * j) rows v (32 * i + k) 0 (omega arith)
    ∙ sym (get_or-chunk (32 * i) 32 rows k 0 (omega arith)))

-- a byte of a row
pub row_byte : (rows : List ℕ) (j k : ℕ) → k < 32 → get_or (row_at rows j) k 0 ≡ get_or rows (32 * j + k) 0
row_byte rows j k l = get_or-chunk (32 * j) 32 rows k 0 l

-- the rows from the n-th on
pub row_drop : (rows : List ℕ) (n j : ℕ) → row_at (drop (32 * n) rows) j ≡ row_at rows (n + j)
row_drop rows n j = ap (take 32) (drop-drop (32 * j) (32 * n) rows ∙ ap (λ i. drop i rows) (let e : 32 * n + 32 * j ≡ 32 * (n + j) = omega arith in e))

pub digit_of_row : (o : Order) (v : List ℕ) (k : ℕ) → get_or (map (digit_of o) v) k 0 ≡ digit_at o v k
digit_of_row o v k = ap (get_or (map (digit_of o) v) k) (sym (digit_zero o)) ∙ get_or-map (digit_of o) v k 0

pub IsLanes-by : (o : Order) (v : List ℕ) (f : ℕ → ℕ) → HasLanes v (λ k. lane_of o (f k)) → ((k : ℕ) → f k < number_of o) → IsLanes o v
IsLanes-by o v f h l =
    let long = h.long in
    record {
      long = long;
      each = λ k. elim (cases_lt k 32) [
        | inl m ↦ rw (h.each k m) (IsLane-lane o (f k) (l k))
        | inr m ↦ rw (get_or_past v k 0 (omega arith)) (zero_lane o)
      ];
    }
  where
    zero_lane : (o : Order) → IsLane o 0
    zero_lane o = record { element = rw (digit_zero o) (number_pos o); lane = ap (lane_of o) (digit_zero o) ∙ lane_zero o }

pub digit_at-by : (o : Order) (v : List ℕ) (f : ℕ → ℕ) (k : ℕ) → HasLanes v (λ k. lane_of o (f k)) → f k < number_of o → k < 32 → digit_at o v k ≡ f k
digit_at-by o v f k h l m = ap (digit_of o) (h.each k m) ∙ digit-lane o (f k) l

pub digit_past : (o : Order) (v : List ℕ) (k : ℕ) → length v ≡ 32 → 32 ≤ k → digit_at o v k ≡ 0
digit_past o v k l m = ap (digit_of o) (get_or_past v k 0 (omega arith)) ∙ digit_zero o

pub multiple_lanes : (o : Order) (v : List ℕ) (all : List ℕ) (c : ℕ) → HasMultiples o v all → c < number_of o → IsLanes o (row_at all c)
multiple_lanes o v all c h l = IsLanes-by o (row_at all c) (λ k. mul_of o c (digit_at o v k)) (h.each c l) (λ k. mul_lt o c _)

pub IsCleared-by : (o : Order) (v : List ℕ) (place factor : ℕ) (all : List ℕ) (r w : List ℕ) (d c : ℕ) → IsPivot o v place factor all → IsLanes o r
    → d ≡ digit_at o r place → c ≡ mul_of o d factor
    → HasLanes w (λ k. lane_of o (add_of o (digit_at o r k) (digit_at o (row_at all c) k)))
    → IsCleared o v place factor r w
IsCleared-by o v place factor all r w d c pivot hr is_d is_c h =
    let lanes = IsLanes-by o w (λ k. add_of o (digit_at o r k) (digit_at o (row_at all c) k)) h (λ k. add_lt o _ _) in
    let c_lt : c < number_of o = rw is_c (mul_lt o d factor) in
    let pl = pivot.lanes in
    record {
      lanes = lanes;
      digits = λ k. elim (cases_lt k 32) [
        | inl m ↦ digit_at-by o w (λ k. add_of o (digit_at o r k) (digit_at o (row_at all c) k)) k h (add_lt o _ _) m
            ∙ ap (add_of o (digit_at o r k)) (digit_at-by o (row_at all c) (λ k. mul_of o c (digit_at o v k)) k (pivot.multiples.each c c_lt) (mul_lt o c _) m
            ∙ ap (λ x. mul_of o x (digit_at o v k)) (is_c ∙ ap (λ x. mul_of o x factor) is_d))
        | inr m ↦ digit_past o w k lanes.long m
            ∙ sym (ap₂ (add_of o) (digit_past o r k hr.long m) (ap (mul_of o (mul_of o (digit_at o r place) factor)) (digit_past o v k pl.long m) ∙ mul_zero o _) ∙ zero_add_zero o)
      ];
    }
