-- How a text is kept in place.
use Rattle.std.proofs.Common.{◌≡◌, ℕ, List, ◌++◌, length, take, drop, replicate, ap, sym}
use Rattle.std.proofs.Math.Seq.{take-append_seam}
use Rattle.std.proofs.lemmas.List.{drop-replicate}
use Rattle.mt_system.specs.KeptText.{IsKept}

-- a text written over the start of zeros is kept
pub IsKept-append : (P : List ℕ → Type 0) (most : ℕ) (text : List ℕ) → P text → IsKept P most (text ++ drop (length text) (replicate most 0)) (length text)
IsKept-append P most text is =
    let zeros = drop (length text) (replicate most 0) in
    let prefix : take (length text) (text ++ zeros) ≡ text = take-append_seam text zeros in
    record {
      text = rw prefix is;
      size = ap (λ (xs : List ℕ). length xs) prefix;
      padded = rw prefix (ap (λ (zs : List ℕ). text ++ zs) (sym (drop-replicate (length text) most 0)));
    }
