-- Heads in a part of the stream.
use Rattle.std.proofs.Common.{◌≡◌, ℕ, zero, suc, ◌+◌, ◌-◌, ◌≤◌, min, true, false, cond, List, [], ◌∷◌, length, take, drop, refl, sym, ◌∙◌, arith, length-drop, inl, inr}
use Rattle.std.proofs.lemmas.Bool.{cases_lt}
use Rattle.std.proofs.lemmas.List.{take-take}
use Rattle.std.proofs.lemmas.List.Sums.{prefix_len-le-length}
use Rattle.mt_http.specs.declared.TheConstants.{HEAD_LIMIT}
use Rattle.mt_http.specs.Bytes.{is_line_end, blank_len, from_head, ends_empty, LacksHead}
use Rattle.mt_http.specs.Places.{LacksHeadIn}

pub true_ne_false : true ≡ false → ⊥
true_ne_false e = cc

-- an empty text ends in no empty line
pub empty_ends_not : ends_empty [] ≡ false
unfolding ends_empty
empty_ends_not = refl

-- no prefix of the text up to k ends so
pub lacks_in_prefix : (stream : List ℕ) (k : ℕ) → k ≡ min (length stream) HEAD_LIMIT - blank_len stream
    → ((n : ℕ) → n ≤ k → ends_empty (take n (take k (from_head stream))) ≡ false) → LacksHead stream
lacks_in_prefix stream k is none n h =
    elim (cases_lt HEAD_LIMIT (blank_len stream + n)) [
      | inl far ↦ far
      | inr near ↦
          let len = length-drop (blank_len stream) stream in
          let le : n ≤ k = omega (arith, h.within, len, is) in
          let no : ends_empty (take n (from_head stream)) ≡ false = rw (← take-take n k (from_head stream) le) (none n le) in
          absurd (true_ne_false (sym h.ends ∙ no))
    ]

pub none_in_nothing : (stream : List ℕ) (n : ℕ) → n ≤ 0 → ends_empty (take n (take 0 (from_head stream))) ≡ false
none_in_nothing stream n le = let is : n ≡ 0 = omega arith in rw is empty_ends_not

-- the same for each place
pub none_in_prefix : (stream : List ℕ) (k : ℕ) → k ≡ min (length stream) HEAD_LIMIT - blank_len stream
    → ((n : ℕ) → n ≤ k → ends_empty (take n (take k (from_head stream))) ≡ false) → LacksHeadIn (min (length stream) HEAD_LIMIT) stream
none_in_prefix stream k is none n within =
    let le : n ≤ k = omega arith in
    rw (← take-take n k (from_head stream) le) (none n le)

-- line ends that are known are not counted again
pub blank_behind : (stream : List ℕ) (known : ℕ) → known ≤ blank_len stream → known + blank_len (drop known stream) ≡ blank_len stream
blank_behind stream zero le = omega arith
blank_behind [] (suc known) le = absurd (omega (arith, le))
blank_behind (b ∷ bytes) (suc known) le =
    elim (is_line_end b) as (λ c. suc known ≤ cond c (1 + blank_len bytes) 0 → suc known + blank_len (drop known bytes) ≡ cond c (1 + blank_len bytes) 0) [
      | true ↦ λ more. omega (arith, blank_behind bytes known (omega (arith, more)))
      | false ↦ λ more. absurd (omega (arith, more))
    ] le

pub blank_within : (stream : List ℕ) (known : ℕ) → known ≤ blank_len stream → known ≤ length stream
blank_within stream known le = omega (arith, le, prefix_len-le-length is_line_end stream)
