-- The records of a keeper and the events that they stand for.
use Rattle.std.proofs.Common.{◌≡◌, ℕ, zero, suc, ◌+◌, ◌-◌, ◌≤◌, List, [], ◌∷◌, ◌++◌, length, refl, sym, ap, ◌∙◌, subst, arith, append-nil, append_assoc, length-append}
use Rattle.std.specs.Prelude.{Option, None, Some, Ok, Err, get_or, map}
use Rattle.mt_io.specs.Told.{WhereTold}
use Rattle.mt_system.specs.Statements.{Statement}
use Rattle.mt_cells.specs.declared.bounds.Bounds.{Bounds}
use Rattle.mt_derive.specs.declared.events.Event.{Event}
use Rattle.mt_derive.specs.declared.events.Event.TheVariants.{Import, Withdraw}
use Rattle.mt_derive.specs.Events.{imports_of, AllFollow}
use Rattle.mt_derive.specs.Places.{IsAt}
use Rattle.mt_derive.proofs.EventLemmas.{imports_withdraw}
use Rattle.mt_import.specs.Canonical.{canonical_text}
use Rattle.mt_import.specs.Withdrawals.{withdraw_text}
use Rattle.mt_keeper.specs.Keeping.{IsNext, Puts}
use Rattle.mt_service.specs.Steps.{IsAccepted}
use Rattle.mt_service.specs.Records.{AreAccepted, IsKept, name_of, event_text, ArePut}
use Rattle.mt_service.specs.Accepting.{HasName, named_text, IsReadAs}
use Rattle.mt_service.proofs.AcceptLemmas.{accepted_follows, few_next}
use Rattle.mt_service.proofs.LengthLemmas.{text_short, note_short}

-- ---- records that are accepted

accepted_length : (b : Bounds) (E : List Event) (texts : List (List ℕ)) (F : List Event) → AreAccepted b E texts F → length texts ≡ length F
accepted_length b E [] [] a = refl
accepted_length b E [] (e ∷ F) a = absurd a
accepted_length b E (t ∷ ts) [] a = absurd a
accepted_length b E (t ∷ ts) (e ∷ F) a = ap suc (accepted_length b (E ++ e ∷ []) ts F a.1)

pub accepted_push : (b : Bounds) (E : List Event) (texts : List (List ℕ)) (F : List Event) (text : List ℕ) (e : Event) → AreAccepted b E texts F → IsAccepted b (E ++ F) text e
    → AreAccepted b E (texts ++ text ∷ []) (F ++ e ∷ [])
accepted_push b E [] [] text e a h = (subst (λ (L : List Event). IsAccepted b L text e) (append-nil E) h, tt)
accepted_push b E [] (d ∷ F) text e a h = absurd a
accepted_push b E (t ∷ ts) [] text e a h = absurd a
accepted_push b E (t ∷ ts) (d ∷ F) text e a h =
    (a.0, accepted_push b (E ++ d ∷ []) ts F text e a.1 (subst (λ (L : List Event). IsAccepted b L text e) (sym (append_assoc E (d ∷ []) F)) h))

-- the number of the next event is that of the next record
pub next_of : (b : Bounds) (told : Option (List (List ℕ))) (E : List Event) (n : ℕ) → n ≡ length E + 1 → IsKept b told E → IsNext told n
next_of b None E n is kept = tt
next_of b (Some records) E n is kept = omega (arith, is, accepted_length b [] records E kept.accepted)

-- ---- a refusal of a put

pub kept_refused : (T R : Type 0) (b : Bounds) (before after : Option (List (List ℕ))) (E : List Event) (x : R) (text : List ℕ) → IsKept b before E → Puts {T = T} {E = R} before after (Err x) text → IsKept b after E
kept_refused T R b None None E x text kept p = tt
kept_refused T R b None (Some after) E x text kept p = absurd p
kept_refused T R b (Some before) None E x text kept p = tt
kept_refused T R b (Some before) (Some after) E x text kept p = rw p kept

refused_told : (T R : Type 0) (before after : Option (List (List ℕ))) (x : R) (text : List ℕ) → Puts {T = T} {E = R} before after (Err x) text → WhereTold before after (λ old new. new ≡ old ++ [])
refused_told T R None None x text p = tt
refused_told T R None (Some after) x text p = absurd p
refused_told T R (Some before) None x text p = tt
refused_told T R (Some before) (Some after) x text p = p ∙ sym (append-nil before)

pub put_refused : (T R : Type 0) (before after : Option (List (List ℕ))) (E : List Event) (x : R) (text : List ℕ) → Puts {T = T} {E = R} before after (Err x) text → ArePut before after E E
put_refused T R before after E x text p = ([], sym (append-nil E), refused_told T R before after x text p)

same_told : (records : Option (List (List ℕ))) → WhereTold records records (λ old new. new ≡ old ++ [])
same_told None = tt
same_told (Some records) = sym (append-nil records)

-- nothing was put
pub put_nothing : (records : Option (List (List ℕ))) (E : List Event) → ArePut records records E E
put_nothing records E = ([], sym (append-nil E), same_told records)

-- ---- the text of an event

name_at : (L : List Statement) (i : ℕ) (c : Statement) → IsAt L i c → get_or (map (λ (d : Statement). d.name) L) i [] ≡ c.name
name_at [] i c at = absurd at
name_at (d ∷ L) zero c at = ap (λ (x : Statement). x.name) at
name_at (d ∷ L) (suc i) c at = name_at L i c at

-- the list has the name of its last event
text_named : (E : List Event) (text : List ℕ) (e : Event) (name : List ℕ) → HasName E text e name → event_text (E ++ e ∷ []) e ≡ named_text e name
text_named E text (Import c) name named = refl
text_named E text (Withdraw n) name named =
    let place = named.named.place in
    let here : name_of (E ++ Withdraw n ∷ []) n ≡ name =
    ap (λ (L : List Statement). get_or (map (λ (d : Statement). d.name) L) (n - 1) []) (imports_withdraw E n)
    ∙ name_at (imports_of E) (n - 1) named.named.claim place.1 ∙ named.named.named in
    ap withdraw_text here

-- the canonical text is accepted as the same event
text_accepted : (b : Bounds) (E : List Event) (text : List ℕ) (e : Event) (name : List ℕ) → IsAccepted b E text e → HasName E text e name → IsReadAs e name (named_text e name) → IsAccepted b E (named_text e name) e
text_accepted b E text (Import c) name (new, holds) named reads =
    let within = new.reads.0 in
    let begins = within.text_of.begins in
    let short : length (canonical_text c) ≤ 65536 =
    text_short c begins.header.header (note_short within.text_of.source c.note _ begins.source_is) (omega (arith, within.columns, b.m_high)) (omega (arith, within.coordinates, b.s_high)) in (
      record {
        reads = (record { text_of = reads short; columns = within.columns; coordinates = within.coordinates }, new.reads.1);
        named = new.named;
        room = new.room;
      },
      holds,
    )
text_accepted b E text (Withdraw n) name (other, to_withdraw, live) named reads = (name, record { withdrawal = reads; named = named.named }, live)

-- ---- a put

put_told : (T R : Type 0) (before after : Option (List (List ℕ))) (x : T) (text put : List ℕ) → text ≡ put → Puts {T = T} {E = R} before after (Ok x) put → WhereTold before after (λ old new. new ≡ old ++ text ∷ [])
put_told T R None None x text put is p = tt
put_told T R None (Some after) x text put is p = absurd p
put_told T R (Some before) None x text put is p = tt
put_told T R (Some before) (Some after) x text put is p = rw is p

-- the text of the event was put
pub put_event : (T R : Type 0) (before after : Option (List (List ℕ))) (E : List Event) (text : List ℕ) (e : Event) (name : List ℕ) (x : T) (M : List Event)
    → HasName E text e name → Puts {T = T} {E = R} before after (Ok x) (named_text e name) → M ≡ E ++ e ∷ [] → ArePut before after E M
put_event T R before after E text e name x M named p is =
    subst (λ (L : List Event). ArePut before after E L) (sym is) (e ∷ [], refl, put_told T R before after x _ (named_text e name) (text_named E text e name named) p)

-- the records stand for the list with the event
pub kept_event : (T R : Type 0) (b : Bounds) (before after : Option (List (List ℕ))) (E : List Event) (text : List ℕ) (e : Event) (name : List ℕ) (x : T) (M : List Event)
    → AllFollow b E → IsAccepted b E text e → HasName E text e name → IsReadAs e name (named_text e name) → IsKept b before E
    → Puts {T = T} {E = R} before after (Ok x) (named_text e name) → M ≡ E ++ e ∷ [] → IsKept b after M
kept_event T R b None None E text e name x M all accepted named reads kept p is = tt
kept_event T R b None (Some after) E text e name x M all accepted named reads kept p is = absurd p
kept_event T R b (Some before) None E text e name x M all accepted named reads kept p is = tt
kept_event T R b (Some before) (Some after) E text e name x M all accepted named reads kept p is = rw (p, is) (record {
  few = omega (
    arith,
    length-append before (named_text e name ∷ []),
    accepted_length b [] before E kept.accepted,
    few_next b E e all (accepted_follows b E text e accepted),
  );
  accepted = accepted_push b [] before E (named_text e name) e kept.accepted (text_accepted b E text e name accepted named reads);
})
