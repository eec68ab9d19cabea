-- What one call that reads a request answers.
use Rattle.std.specs.Prelude.{◌≡◌, ℕ, ◌≤◌, ◌⊎◌, Bool, true, false, List, ◌++◌, length, slice_range, Option}
use Rattle.mt_io.specs.Faults.{Rose}
use Rattle.mt_http.specs.declared.wire.Got.{Got}
use Rattle.mt_http.specs.declared.wire.Got.TheVariants as got
use Rattle.mt_http.specs.declared.wire.Span.{Span}
use Rattle.mt_http.specs.declared.wire.Wire.{Wire}
use Rattle.mt_io.specs.Told.{NoneLeft}
use Rattle.mt_http.specs.Buffers.{Held, ahead}
use Rattle.mt_http.specs.Items.{Request, asked, refused, ended, cut, Begins}

-- the count never falls, and an answer that is a fault comes only where it rose
pub record HasReadCause (before now : ℕ) (is_fault : Bool) : Type 0 where
  pub later : before ≤ now
  pub failed : is_fault ≡ true → Rose before now

abbrev pub is_fault : Got → Bool
is_fault got.ReadFault = true
is_fault _ = false

-- the bytes of a span
abbrev pub span_at : List ℕ → Span → List ℕ
span_at bytes span = slice_range bytes span.from span.to

-- the span lies in the bytes
abbrev pub IsIn : List ℕ → Span → Type 0
IsIn bytes span = (span.from ≤ span.to) × (span.to ≤ length bytes)

abbrev pub request_at : List ℕ → Wire → Request
request_at bytes wire = record {
  verb = wire.verb;
  target = span_at bytes wire.target;
  body = span_at bytes wire.body;
  close = wire.close;
}

-- what the bytes held, as a stream of their own, begin with
abbrev pub IsGot : Got → Held → Option (List ℕ) → Type 0
IsGot (got.Request wire) held left =
    IsIn held.bytes wire.target × IsIn held.bytes wire.body
    × Begins held.bytes (asked (request_at held.bytes wire) (ahead held))
IsGot (got.Refused e) held left = Begins held.bytes (refused e)
IsGot got.End held left = Begins held.bytes ended × NoneLeft left
IsGot got.Cut held left = Begins held.bytes cut × NoneLeft left
-- no whole item is in the bytes taken
IsGot got.ReadFault held left = Begins held.bytes ended ⊎ Begins held.bytes cut

-- what the stream that is left begins with, and what of it is left then
abbrev pub IsFirst : Got → List ℕ → Held → List ℕ → Type 0
IsFirst (got.Request wire) stream held after = Begins stream (asked (request_at held.bytes wire) (ahead held ++ after))
IsFirst (got.Refused e) stream held after = Begins stream (refused e)
IsFirst got.End stream held after = Begins stream ended
IsFirst got.Cut stream held after = Begins stream cut
IsFirst got.ReadFault stream held after = (stream ≡ held.bytes ++ after) × (Begins held.bytes ended ⊎ Begins held.bytes cut)
