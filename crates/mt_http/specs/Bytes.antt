-- Where a head ends in a stream of bytes (RFC 9112, 2.1 and 2.2): its lines end with LF, behind a CR or not, and the last one is empty.
use Rattle.std.specs.Prelude.{◌≡◌, ℕ, ◌+◌, ◌<◌, ◌≤◌, Bool, true, false, ◌||◌, ◌==◌, nat_eq, List, [], ◌∷◌, length, take, drop}
use Rattle.std.specs.List.{prefix_len, ends_with}
use Rattle.httparse.specs.Ascii.{line_feed, carriage_return}
use Rattle.mt_http.specs.declared.TheConstants.{HEAD_LIMIT}

-- CR or LF
unfoldable pub is_line_end : ℕ → Bool
is_line_end b = b == carriage_return || b == line_feed

-- how many of them stand in front of a request, where a server drops them (RFC 9112, 2.2)
abbrev pub blank_len : List ℕ → ℕ
blank_len stream = prefix_len is_line_end stream

-- the stream behind them
abbrev pub from_head : List ℕ → List ℕ
from_head stream = drop (blank_len stream) stream

-- whether the text ends with the end of a line and then an empty line: LF LF, or LF CR LF
unfoldable pub ends_empty : List ℕ → Bool
ends_empty text =
    ends_with nat_eq text (line_feed ∷ line_feed ∷ []) || ends_with nat_eq text (line_feed ∷ carriage_return ∷ line_feed ∷ [])

-- a head of n bytes begins the text: the shortest beginning that ends so
pub record IsHeadLen (text : List ℕ) (n : ℕ) : Type 0 where
  pub within : n ≤ length text
  pub ends : ends_empty (take n text) ≡ true
  pub first : (m : ℕ) → m < n → ends_empty (take m text) ≡ false

-- no head ends within the limit, to which the bytes dropped in front count
abbrev pub LacksHead : List ℕ → Type 0
LacksHead stream = (n : ℕ) → IsHeadLen (from_head stream) n → HEAD_LIMIT < blank_len stream + n
