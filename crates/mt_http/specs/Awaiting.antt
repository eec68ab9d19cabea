-- What one read does to a buffer, and what it then has of a request. Internal: a reader need not believe this.
use Rattle.std.specs.Prelude.{◌≡◌, ℕ, ◌+◌, ◌<◌, ◌≤◌, Bool, true, false, List, length, Option, Result, IfOk, OnErr}
use Rattle.mt_io.specs.Told.{NoneLeft}
use Rattle.mt_http.specs.declared.TheConstants.{HEAD_LIMIT}
use Rattle.mt_http.specs.declared.reading.Awaited.{Awaited}
use Rattle.mt_http.specs.declared.reading.Awaited.TheVariants as awaited
use Rattle.mt_http.specs.declared.reading.Filled.{Filled}
use Rattle.mt_http.specs.declared.reading.Filled.TheVariants as filled
use Rattle.mt_http.specs.Buffers.{Moves}
use Rattle.mt_http.specs.Bytes.{blank_len, LacksHead}
use Rattle.mt_http.specs.Items.{EndsInHead}
use Rattle.mt_http.specs.Places.{IsHeadAt}

-- one read: Ok(n) takes n bytes, and 0 only where none is left; an Err takes none
pub record IsRead {E : Type 0} (old : List ℕ) (before : Option (List ℕ)) (result : Result ℕ E) (new : List ℕ) (after : Option (List ℕ)) : Type 0 where
  pub moves : Moves old before new after
  pub count : IfOk result (λ n. length new ≡ length old + n)
  pub none_left : IfOk result (λ n. n ≡ 0 → NoneLeft after)
  pub kept : OnErr result (new ≡ old)

abbrev pub is_awaited_fault : Awaited → Bool
is_awaited_fault awaited.ReadFault = true
is_awaited_fault _ = false

-- what the bytes held have of a head
abbrev pub IsAwaited : Awaited → List ℕ → Option (List ℕ) → Type 0
IsAwaited (awaited.Head at) bytes left = IsHeadAt bytes at.start at.end
IsAwaited awaited.TooLong bytes left = (HEAD_LIMIT ≤ length bytes) × LacksHead bytes
IsAwaited awaited.End bytes left = (length bytes < HEAD_LIMIT) × (blank_len bytes ≡ length bytes) × NoneLeft left
IsAwaited awaited.Cut bytes left = EndsInHead bytes × NoneLeft left
IsAwaited awaited.ReadFault bytes left = (length bytes < HEAD_LIMIT) × LacksHead bytes

abbrev pub is_filled_fault : Filled → Bool
is_filled_fault filled.ReadFault = true
is_filled_fault _ = false

-- whether so many bytes are held
abbrev pub IsFilled : Filled → ℕ → List ℕ → Option (List ℕ) → Type 0
IsFilled filled.Whole count bytes left = count ≤ length bytes
IsFilled filled.Short count bytes left = (length bytes < count) × NoneLeft left
IsFilled filled.ReadFault count bytes left = length bytes < count
