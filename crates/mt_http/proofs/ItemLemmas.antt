-- What a stream begins with stays when more bytes come.
use Rattle.std.proofs.Common.{◌≡◌, ℕ, ◌+◌, ◌-◌, ◌<◌, ◌≤◌, ◌⊎◌, inl, inr, Bool, false, cond, List, ◌++◌, length, take, drop, slice_range, sym, ◌∙◌, ap, subst, arith, length-append, length-take, length-drop, Option, Some, None, Result, Ok, Err}
use Rattle.std.proofs.lemmas.Bool.{cases_lt}
use Rattle.std.proofs.lemmas.Bool.Decides.{eqb_tells}
use Rattle.std.proofs.lemmas.List.{append-nil, drop-drop, take-take, drop-take, take-append-le, drop-append-le}
use Rattle.std.proofs.lemmas.List.Folds.{prefix_len-append}
use Rattle.std.proofs.lemmas.List.Sums.{prefix_len-le-length}
use Rattle.mt_http.specs.declared.TheConstants.{HEAD_LIMIT}
use Rattle.mt_http.specs.declared.wire.Refusal.{Refusal}
use Rattle.mt_http.specs.declared.wire.Got.{Got}
use Rattle.mt_http.specs.declared.wire.Got.TheVariants as got
use Rattle.mt_io.specs.Told.{WhereTold, Keeps}
use Rattle.mt_http.specs.Buffers.{Held, ahead, Grows}
use Rattle.mt_http.specs.Bytes.{is_line_end, blank_len, from_head, ends_empty, IsHeadLen, LacksHead}
use Rattle.mt_http.specs.Places.{IsHeadAt, LacksHeadIn}
use Rattle.mt_http.specs.Fields.{Heading}
use Rattle.mt_http.specs.Heads.{Says}
use Rattle.mt_http.specs.Items.{Request, ended, cut, HasHead, behind, IsAsked, EndsInBody, IsRefused, Begins}
use Rattle.mt_http.specs.Parsed.{heading_at}
use Rattle.mt_http.specs.Reading.{request_at, IsGot, IsFirst}
use Rattle.mt_http.specs.declared.heads.HeadingSpans.{HeadingSpans}
use Rattle.mt_http.proofs.HeadLemmas.{empty_ends_not, true_ne_false}

-- a head has bytes
pub head_has_bytes : (text : List ℕ) (n : ℕ) → IsHeadLen text n → 0 < n
head_has_bytes text n h =
    elim (cases_lt 0 n) [
      | inl some ↦ some
      | inr none ↦
          let is : n ≡ 0 = omega arith in
          let no : ends_empty (take n text) ≡ false = rw is empty_ends_not in
          absurd (true_ne_false (sym h.ends ∙ no))
    ]

-- there is a byte behind the line ends in front
pub head_begins : (s : List ℕ) (n : ℕ) → IsHeadLen (from_head s) n → blank_len s < length s
head_begins s n h =
    let some = head_has_bytes (from_head s) n h in
    omega (arith, some, h.within, length-drop (blank_len s) s)

-- the line ends in front are the same when more bytes come
blank_grown : (s m : List ℕ) → blank_len s < length s → blank_len (s ++ m) ≡ blank_len s
blank_grown s m lt =
    elim (eqb_tells (blank_len s) (length s)) [
      | inl same ↦ absurd (omega (arith, lt, same.1))
      | inr other ↦ prefix_len-append is_line_end s m ∙ ap (λ (b : Bool). cond b (length s + blank_len m) (blank_len s)) other.0
    ]

all_blank_grown : (s m : List ℕ) → blank_len s ≡ length s → length s ≤ blank_len (s ++ m)
all_blank_grown s m e =
    elim (eqb_tells (blank_len s) (length s)) [
      | inl same ↦
          let is : blank_len (s ++ m) ≡ length s + blank_len m =
          prefix_len-append is_line_end s m ∙ ap (λ (b : Bool). cond b (length s + blank_len m) (blank_len s)) same.0 in
          omega arith
      | inr other ↦ absurd (other.1 e)
    ]

from_head_grown : (s m : List ℕ) → blank_len s < length s → from_head (s ++ m) ≡ from_head s ++ m
from_head_grown s m lt =
    ap (λ (n : ℕ). drop n (s ++ m)) (blank_grown s m lt) ∙ drop-append-le (blank_len s) s m (omega arith)

head_len_grown : (t m : List ℕ) (n : ℕ) → IsHeadLen t n → IsHeadLen (t ++ m) n
head_len_grown t m n h = record {
  within = omega (arith, h.within, length-append t m);
  ends = ap ends_empty (take-append-le n t m h.within) ∙ h.ends;
  first = λ k lt. ap ends_empty (take-append-le k t m (omega (arith, h.within))) ∙ h.first k lt;
}

-- the converse, where the head is in the first part
head_len_before : (t m : List ℕ) (n : ℕ) → n ≤ length t → IsHeadLen (t ++ m) n → IsHeadLen t n
head_len_before t m n le h = record {
  within = le;
  ends = ap ends_empty (sym (take-append-le n t m le)) ∙ h.ends;
  first = λ k lt. ap ends_empty (sym (take-append-le k t m (omega arith))) ∙ h.first k lt;
}

pub has_head_grown : (s m : List ℕ) (n : ℕ) (said : Result Heading Refusal) → HasHead s n said → HasHead (s ++ m) n said
has_head_grown s m n said h =
    let lt = head_begins s n h.is_len in
    let text = from_head_grown s m lt in
    record {
      is_len = subst (λ (t : List ℕ). IsHeadLen t n) (sym text) (head_len_grown (from_head s) m n h.is_len);
      fits = subst (λ (b : ℕ). b + n ≤ HEAD_LIMIT) (sym (blank_grown s m lt)) h.fits;
      says = subst (λ (t : List ℕ). Says t said) (sym (ap (take n) text ∙ take-append-le n (from_head s) m h.is_len.within)) h.says;
    }

pub behind_grown : (s m : List ℕ) (n : ℕ) (said : Result Heading Refusal) → HasHead s n said → behind (s ++ m) n ≡ behind s n ++ m
behind_grown s m n said h =
    ap (drop n) (from_head_grown s m (head_begins s n h.is_len)) ∙ drop-append-le n (from_head s) m h.is_len.within

lacks_grown : (s m : List ℕ) → HEAD_LIMIT ≤ length s → LacksHead s → LacksHead (s ++ m)
lacks_grown s m long lacks n h =
    let some = head_has_bytes (from_head (s ++ m)) n h in
    elim (cases_lt (blank_len s) (length s)) [
      | inr all ↦ omega (arith, some, all_blank_grown s m (omega (arith, all, prefix_len-le-length is_line_end s)))
      | inl lt ↦
          let same = blank_grown s m lt in
          elim (cases_lt HEAD_LIMIT (blank_len (s ++ m) + n)) [
            | inl far ↦ far
            | inr near ↦
                let le : n ≤ length (from_head s) = omega (arith, near, same, long, length-drop (blank_len s) s) in
                let there : IsHeadLen (from_head s ++ m) n = subst (λ (t : List ℕ). IsHeadLen t n) (from_head_grown s m lt) h in
                omega (arith, lacks n (head_len_before (from_head s) m n le there), same)
          ]
    ]

abbrev request_record : Heading → List ℕ → Request
request_record heading body = record { verb = heading.verb; target = heading.target; body = body; close = heading.close }

-- a request and a refusal stay
pub asked_grown : (s m : List ℕ) (request : Request) (rest : List ℕ) → IsAsked s request rest → IsAsked (s ++ m) request (rest ++ m)
asked_grown s m request rest h =
    let bytes = behind_grown s m h.n (Ok h.heading) h.has_head in
    record {
      n = h.n;
      heading = h.heading;
      has_head = has_head_grown s m h.n (Ok h.heading) h.has_head;
      has_body = omega (arith, h.has_body, ap length bytes, length-append (behind s h.n) m);
      request_is = h.request_is ∙ ap (request_record h.heading)
          (sym (ap (take h.heading.len) bytes ∙ take-append-le h.heading.len (behind s h.n) m h.has_body));
      rest_is = ap (λ (t : List ℕ). t ++ m) h.rest_is
          ∙ sym (ap (drop h.heading.len) bytes ∙ drop-append-le h.heading.len (behind s h.n) m h.has_body);
    }

pub refused_grown : (s m : List ℕ) (e : Refusal) → IsRefused s e → IsRefused (s ++ m) e
refused_grown s m e (inl h) = inl (h.0, omega (arith, h.1, length-append s m), lacks_grown s m h.1 h.2)
refused_grown s m e (inr h) = inr (h.0, has_head_grown s m h.0 (Err e) h.1)

-- what the bytes held say of the stream that is told
first_from_got : (got : Got) (a before after : List ℕ) (held : Held) → a ++ before ≡ held.bytes ++ after
    → IsGot got held (Some after) → IsFirst got (a ++ before) held after
first_from_got (got.Request wire) a before after held e h =
    subst (λ (s : List ℕ). IsAsked s (request_at held.bytes wire) (ahead held ++ after)) (sym e)
    (asked_grown held.bytes after (request_at held.bytes wire) (ahead held) h.2)
first_from_got (got.Refused r) a before after held e h =
    subst (λ (s : List ℕ). IsRefused s r) (sym e) (refused_grown held.bytes after r h)
first_from_got got.End a before after held e h =
    subst (λ (s : List ℕ). Begins s ended) (sym (e ∙ ap (λ (x : List ℕ). held.bytes ++ x) h.1 ∙ append-nil held.bytes)) h.0
first_from_got got.Cut a before after held e h =
    subst (λ (s : List ℕ). Begins s cut) (sym (e ∙ ap (λ (x : List ℕ). held.bytes ++ x) h.1 ∙ append-nil held.bytes)) h.0
first_from_got got.ReadFault a before after held e h = (e, h)

pub first_told : (got : Got) (a : List ℕ) (held : Held) (before after : Option (List ℕ)) → Keeps a before held.bytes after → IsGot got held after
    → WhereTold before after (λ left left'. IsFirst got (a ++ left) held left')
first_told got a held None None keeps is = tt
first_told got a held None (Some y) keeps is = absurd keeps
first_told got a held (Some x) None keeps is = tt
first_told got a held (Some x) (Some y) keeps is = first_from_got got a x y held keeps is

-- a head at these places that says this
pub has_head_at : (s : List ℕ) (start end : ℕ) (said : Result Heading Refusal) → IsHeadAt s start end
    → Says (slice_range s start end) said → HasHead s (end - start) said
has_head_at s start end said at h = record {
  is_len = at.is_len;
  fits = omega (arith, at.start_is, at.fits, at.ordered);
  says = subst (λ (b : ℕ). Says (take (end - start) (drop b s)) said) at.start_is h;
}

-- the bytes behind it, when more have come
behind_at : (s m : List ℕ) (start end : ℕ) → IsHeadAt s start end → behind (s ++ m) (end - start) ≡ drop end (s ++ m)
behind_at s m start end at =
    let same = blank_grown s m (head_begins s (end - start) at.is_len) in
    let sum : blank_len (s ++ m) + (end - start) ≡ end = omega (arith, same, at.start_is, at.ordered) in
    drop-drop (end - start) (blank_len (s ++ m)) (s ++ m) ∙ ap (λ (n : ℕ). drop n (s ++ m)) sum

-- a part of a part
part_of_part : (s m : List ℕ) (start end a b : ℕ) → start ≤ end → end ≤ length s → a ≤ b → b ≤ end - start
    → slice_range (slice_range s start end) a b ≡ slice_range (s ++ m) (start + a) (start + b)
part_of_part s m start end a b h k ab be =
    let split : a + (end - start - a) ≡ end - start = omega arith in
    let same : (start + b) - (start + a) ≡ b - a = omega arith in
    let le : b - a ≤ end - start - a = omega arith in
    let long : b - a ≤ length (drop (start + a) s) = omega (arith, length-drop (start + a) s) in
    ap (λ (n : ℕ). take (b - a) (drop a (take n (drop start s)))) (sym split)
    ∙ ap (take (b - a)) (drop-take a (end - start - a) (drop start s))
    ∙ take-take (b - a) (end - start - a) (drop a (drop start s)) le
    ∙ ap (take (b - a)) (drop-drop a start s)
    ∙ sym (take-append-le (b - a) (drop (start + a) s) m long)
    ∙ ap (take (b - a)) (sym (drop-append-le (start + a) s m (omega arith)))
    ∙ ap (λ (n : ℕ). take n (drop (start + a) (s ++ m))) (sym same)

abbrev wire_record : HeadingSpans → List ℕ → List ℕ → Request
wire_record h target body = record { verb = h.verb; target = target; body = body; close = h.close }

asked_at : (s m : List ℕ) (start end : ℕ) (h : HeadingSpans) → IsHeadAt s start end
    → Says (slice_range s start end) (Ok (heading_at (slice_range s start end) h))
    → h.target_start ≤ h.target_end → h.target_end ≤ length (slice_range s start end) → end + h.len ≤ length (s ++ m)
    → IsAsked (s ++ m) (wire_record h (slice_range (s ++ m) (start + h.target_start) (start + h.target_end)) (slice_range (s ++ m) end (end + h.len)))
    (drop (end + h.len) (s ++ m))
asked_at s m start end h at says ordered within whole =
    let heading = heading_at (slice_range s start end) h in
    let head = has_head_at s start end (Ok heading) at says in
    let bytes = behind_at s m start end at in
    let fits : h.target_end ≤ end - start = omega (arith, within, length-take (end - start) (drop start s)) in
    let size : (end + h.len) - end ≡ h.len = omega arith in
    record {
      n = end - start;
      heading = heading;
      has_head = has_head_grown s m (end - start) (Ok heading) head;
      has_body = omega (arith, ap length bytes, length-drop end (s ++ m));
      request_is =
          ap (λ (t : List ℕ). wire_record h t (slice_range (s ++ m) end (end + h.len)))
          (sym (part_of_part s m start end h.target_start h.target_end at.ordered at.within ordered fits))
          ∙ ap (wire_record h heading.target)
          (ap (λ (n : ℕ). take n (drop end (s ++ m))) size ∙ ap (take h.len) (sym bytes));
      rest_is = sym (ap (drop h.len) bytes ∙ drop-drop h.len end (s ++ m));
    }

ends_at : (s m : List ℕ) (start end : ℕ) (h : HeadingSpans) → IsHeadAt s start end
    → Says (slice_range s start end) (Ok (heading_at (slice_range s start end) h)) → length (s ++ m) < end + h.len → EndsInBody (s ++ m)
ends_at s m start end h at says short =
    let heading = heading_at (slice_range s start end) h in
    record {
      n = end - start;
      heading = heading;
      has_head = has_head_grown s m (end - start) (Ok heading) (has_head_at s start end (Ok heading) at says);
      short = omega (arith, ap length (behind_at s m start end at), length-drop end (s ++ m), at.within, length-append s m);
    }

-- the same of bytes that grew
pub asked_then : (s b : List ℕ) (start end : ℕ) (h : HeadingSpans) → Grows s b → IsHeadAt s start end
    → Says (slice_range s start end) (Ok (heading_at (slice_range s start end) h))
    → h.target_start ≤ h.target_end → h.target_end ≤ length (slice_range s start end) → end + h.len ≤ length b
    → IsAsked b (wire_record h (slice_range b (start + h.target_start) (start + h.target_end)) (slice_range b end (end + h.len)))
    (drop (end + h.len) b)
asked_then s b start end h grows at says ordered within whole =
    subst (λ (x : List ℕ). IsAsked x (wire_record h (slice_range x (start + h.target_start) (start + h.target_end)) (slice_range x end (end + h.len)))
    (drop (end + h.len) x)) (sym grows)
    (asked_at s (drop (length s) b) start end h at says ordered within (subst (λ (x : List ℕ). end + h.len ≤ length x) grows whole))

pub ends_then : (s b : List ℕ) (start end : ℕ) (h : HeadingSpans) → Grows s b → IsHeadAt s start end
    → Says (slice_range s start end) (Ok (heading_at (slice_range s start end) h)) → length b < end + h.len → EndsInBody b
ends_then s b start end h grows at says short =
    subst (λ (x : List ℕ). EndsInBody x) (sym grows)
    (ends_at s (drop (length s) b) start end h at says (subst (λ (x : List ℕ). length x < end + h.len) grows short))

-- no head is there yet
pub waits : (s : List ℕ) → length s < HEAD_LIMIT → LacksHead s → Begins s ended ⊎ Begins s cut
waits s short lacks =
    elim (cases_lt (blank_len s) (length s)) [
      | inl begun ↦ inr (inl (record { short = short; begun = begun; lacks = lacks }))
      | inr all ↦ inl (short, omega (arith, all, prefix_len-le-length is_line_end s))
    ]

-- bytes that were looked at are not looked at again when more come
none_grown : (s m : List ℕ) → LacksHeadIn (length s) s → LacksHeadIn (length s) (s ++ m)
none_grown s m none n within =
    elim (cases_lt (blank_len s) (length s)) [
      | inr all ↦
          let blank = all_blank_grown s m (omega (arith, all, prefix_len-le-length is_line_end s)) in
          let is : n ≡ 0 = omega (arith, blank, within) in
          rw is empty_ends_not
      | inl lt ↦
          let same = blank_grown s m lt in
          let le : n ≤ length (from_head s) = omega (arith, same, within, length-drop (blank_len s) s) in
          ap (λ (t : List ℕ). ends_empty (take n t)) (from_head_grown s m lt)
          ∙ ap ends_empty (take-append-le n (from_head s) m le) ∙ none n (omega (arith, same, within))
    ]

pub none_then : (s b : List ℕ) → Grows s b → LacksHeadIn (length s) s → LacksHeadIn (length s) b
none_then s b grows none = subst (λ (x : List ℕ). LacksHeadIn (length s) x) (sym grows) (none_grown s (drop (length s) b) none)

pub none_at_first : (s : List ℕ) → LacksHeadIn 0 s
none_at_first s n within = let is : n ≡ 0 = omega arith in rw is empty_ends_not

-- the line ends in front are no fewer when more bytes come
blank_grows : (s m : List ℕ) → blank_len s ≤ blank_len (s ++ m)
blank_grows s m =
    elim (cases_lt (blank_len s) (length s)) [
      | inr all ↦ omega (arith, all, prefix_len-le-length is_line_end s, all_blank_grown s m (omega (arith, all, prefix_len-le-length is_line_end s)))
      | inl lt ↦ omega (arith, blank_grown s m lt)
    ]

pub blank_then : (s b : List ℕ) → Grows s b → blank_len s ≤ blank_len b
blank_then s b grows = subst (λ (x : List ℕ). blank_len s ≤ blank_len x) (sym grows) (blank_grows s (drop (length s) b))
