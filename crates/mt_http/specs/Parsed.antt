-- What offsets into the bytes of a head say. Internal: a reader need not believe this.
use Rattle.std.specs.Prelude.{ℕ, List, map, slice_range, Option, Some, None, Result, Ok, Err}
use Rattle.httparse.specs.declared.spans.HeaderSpan.{HeaderSpan}
use Rattle.httparse.specs.declared.spans.RequestSpans.{RequestSpans}
use Rattle.httparse.specs.Grammar.{RequestHead}
use Rattle.httparse.specs.Spans.{IsRequestAt, IsRequestWithin, header_bytes}
use Rattle.mt_http.specs.declared.heads.HeadingSpans.{HeadingSpans}
use Rattle.mt_http.specs.declared.wire.Refusal.{Refusal}
use Rattle.mt_http.specs.Fields.{Field, Heading}
use Rattle.mt_http.specs.Heads.{IsWhole}

-- the fields that the offsets show
abbrev pub fields_at : List ℕ → List HeaderSpan → List Field
fields_at bytes headers = map (header_bytes bytes) headers

-- the bytes are one whole head, whose parts the offsets show
pub record IsWholeAt (bytes : List ℕ) (headers : List HeaderSpan) (spans : RequestSpans) (h : RequestHead) : Type 0 where
  pub whole : IsWhole bytes h
  pub shows : IsRequestAt bytes headers spans h
  pub within : IsRequestWithin bytes headers spans

abbrev pub ParsesWhole : List ℕ → List HeaderSpan → Option RequestSpans → Type 0
ParsesWhole bytes headers (Some spans) = (h : RequestHead) × IsWholeAt bytes headers spans h
ParsesWhole bytes headers None = (h : RequestHead) → ¬ IsWhole bytes h

-- the heading that offsets show
abbrev pub heading_at : List ℕ → HeadingSpans → Heading
heading_at bytes h = record {
  verb = h.verb;
  target = slice_range bytes h.target_start h.target_end;
  len = h.len;
  close = h.close;
}

abbrev pub said_at : List ℕ → Result HeadingSpans Refusal → Result Heading Refusal
said_at bytes (Ok h) = Ok (heading_at bytes h)
said_at bytes (Err e) = Err e
