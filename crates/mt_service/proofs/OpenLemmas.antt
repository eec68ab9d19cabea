-- Records that are read in their order.
use Rattle.std.proofs.Common.{◌≡◌, ℕ, ◌+◌, ◌-◌, ◌<◌, ◌≤◌, List, [], length, take, get_or, slice_get, Option, None, Some, Ok, Err, refl, sym, subst, arith}
use Rattle.std.proofs.lemmas.List.{take_more}
use Rattle.std.proofs.lemmas.Option.{get_or_from_slice_get}
use Rattle.mt_cells.specs.declared.bounds.Bounds.{Bounds}
use Rattle.mt_derive.specs.declared.events.Event.{Event}
use Rattle.mt_derive.specs.declared.imports.TheConstants.{MOST_EVENTS}
use Rattle.mt_keeper.specs.declared.refusals.KeeperRefused.{KeeperRefused}
use Rattle.mt_keeper.specs.Keeping.{Loads}
use Rattle.mt_service.specs.declared.opening.Bad.{Bad}
use Rattle.mt_service.specs.declared.opening.Bad.TheVariants as bad
use Rattle.mt_service.specs.Steps.{IsAccepted}
use Rattle.mt_service.specs.Records.{AreAccepted}
use Rattle.mt_service.specs.Opening.{IsBad}
use Rattle.mt_service.proofs.KeptLemmas.{accepted_push}
use Rattle.mt_service.specs.Filling.{Adopts, Fills, refused_of}

less : (i : ℕ) → i + 1 - 1 ≡ i
less i = omega arith

-- with the next record there is an event more
pub accepted_next : (T : Type 0) (b : Bounds) (records : List (List ℕ)) (L M : List Event) (i : ℕ) (text : List ℕ) (x : T) → i < length records → AreAccepted b [] (take i records) L
    → slice_get records (i + 1 - 1) ≡ Some text → Adopts b L text M (Ok x) → AreAccepted b [] (take (i + 1) records) M
accepted_next T b records L M i text x l g read (e, accepted, is) =
    let here : text ≡ get_or records i [] = sym (get_or_from_slice_get records i text [] (subst (λ (j : ℕ). slice_get records j ≡ Some text) (less i) read)) in
    rw (take_more records i [] l, is) (accepted_push b [] (take i records) L (get_or records i []) e g (subst (λ (t : List ℕ). IsAccepted b L t e) here accepted))

-- the next record is the first bad one, or memory is wanted
pub fills_not : (T U : Type 0) (b : Bounds) (records : List (List ℕ)) (L M : List Event) (i : ℕ) (text : List ℕ) (e : Bad) → length records ≤ MOST_EVENTS → i < length records
    → AreAccepted b [] (take i records) L → slice_get records (i + 1 - 1) ≡ Some text → Adopts {T = T} b L text M (Err e) → Fills {T = U} b records M (Err (refused_of e (i + 1)))
fills_not T U b records L M i text (bad.Why w) few l g read is = record {
  few = few;
  from = omega arith;
  to = omega arith;
  before = L;
  accepted = rw (less i) g;
  bad = subst (λ (t : List ℕ). IsBad b L t w) (sym (get_or_from_slice_get records (i + 1 - 1) text [] read)) is;
}
fills_not T U b records L M i text bad.Memory few l g read is = tt

-- where a load fails there are some records
pub records_of : (E : Type 0) (old new : Option (List (List ℕ))) (e : KeeperRefused) → Loads old new (Err e) → (records : List (List ℕ)) × Loads {E = E} old new (Ok records)
records_of E None None e p = ([], tt)
records_of E None (Some b) e p = absurd p
records_of E (Some a) None e p = ([], tt)
records_of E (Some a) (Some b) e p = (a, (p.0, refl))
