-- Where a head stands among bytes, while more come. Internal: a reader need not believe this.
use Rattle.std.specs.Prelude.{◌≡◌, ℕ, ◌+◌, ◌-◌, ◌≤◌, false, List, length, take}
use Rattle.mt_http.specs.declared.TheConstants.{HEAD_LIMIT}
use Rattle.mt_http.specs.Bytes.{blank_len, from_head, ends_empty, IsHeadLen}

-- a head stands at these places of the stream, behind the line ends in front
pub record IsHeadAt (stream : List ℕ) (start end : ℕ) : Type 0 where
  pub start_is : start ≡ blank_len stream
  pub ordered : start ≤ end
  pub within : end ≤ length stream
  pub fits : end ≤ HEAD_LIMIT
  pub is_len : IsHeadLen (from_head stream) (end - start)

-- no head ends within the first seen bytes
abbrev pub LacksHeadIn : ℕ → List ℕ → Type 0
LacksHeadIn seen stream = (n : ℕ) → blank_len stream + n ≤ seen → ends_empty (take n (from_head stream)) ≡ false
