-- What a copied piece is of the bytes that it comes from.
use Rattle.std.proofs.Common.{◌≡◌, ℕ, ◌<◌, List, ◌++◌, length, take, drop, sym, arith}
use Rattle.std.proofs.lemmas.List.{take-append-drop, length-take, take_at, nil_from_length}
use Rattle.mt_io.specs.Counts.{piece_count}
use Rattle.mt_io.specs.Streams.{TakesPrefix}

-- the piece is the beginning of the bytes, and is empty only where there was none
pub gives_prefix : (from before after : List ℕ) (n piece : ℕ) → 0 < piece → 0 < length before → n ≡ piece_count piece (length before) from → after ≡ take n from ++ drop n before → TakesPrefix from (drop n from) after n
gives_prefix from before after n piece some room count copied =
    let whole : length (take n from) ≡ n = simp length-take (omega arith) in
    record {
      prefix = rw (copied, take_at (take n from) (drop n before) n whole) (sym (take-append-drop n from));
      none_left = λ empty. nil_from_length from (omega arith);
    }
