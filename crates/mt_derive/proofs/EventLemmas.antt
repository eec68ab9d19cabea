-- Lists of events: one event more, the imports of a first part, and the flags of what is live.
use Rattle.std.proofs.Common.{◌≡◌, ◌≢◌, ℕ, zero, suc, ◌+◌, ◌-◌, ◌<◌, ◌≤◌, ◌==◌, ⊎_elim, inl, inr, Bool, true, false, not, cond, ◌||◌, List, [], ◌∷◌, ◌++◌, length, take, get_or, refl, sym, ap, ◌∙◌, subst, arith, get_or-set_same, get_or-set_other}
use Rattle.std.specs.List.{list_any}
use Rattle.std.proofs.Math.ListN.{set}
use Rattle.std.proofs.Math.Bool.{or-false}
use Rattle.std.proofs.Math.Seq.{take-append_seam}
use Rattle.std.proofs.lemmas.Bool.{cases_eq, eq-eqb, eqb-true}
use Rattle.std.proofs.lemmas.List.{take-append-le, length-set, length_push}
use Rattle.std.proofs.lemmas.List.Folds.{list_any-append}
use Rattle.std.proofs.lemmas.List.Sums.{sum_by-set, sum_by-append, sum_by-cons}
use Rattle.mt_system.specs.Statements.{Statement}
use Rattle.mt_cells.specs.declared.bounds.Bounds.{Bounds}
use Rattle.mt_derive.specs.declared.events.Event.{Event}
use Rattle.mt_derive.specs.declared.events.Event.TheVariants.{Import, Withdraw}
use Rattle.mt_derive.specs.Events.{imports_of, withdraws, is_live, IsLive, Follows, AllFollow}
use Rattle.mt_derive.specs.Flags.{count_set, AreFlags}
use Rattle.mt_derive.specs.Imports.{LacksName, IsNamed}
use Rattle.mt_derive.specs.Places.{IsAt}
use Rattle.mt_derive.proofs.PlaceLemmas.{place_get, place_below, place_push}

-- ---- one event more

pub imports_append : (E F : List Event) → imports_of (E ++ F) ≡ imports_of E ++ imports_of F
imports_append [] F = refl
imports_append (Import c ∷ E) F = ap (λ L. c ∷ L) (imports_append E F)
imports_append (Withdraw n ∷ E) F = imports_append E F

pub count_import : (E : List Event) (c : Statement) → length (imports_of (E ++ Import c ∷ [])) ≡ length (imports_of E) + 1
count_import E c = ap length (imports_append E (Import c ∷ [])) ∙ length_push (imports_of E) c

append_nil : {A : Type 0} (xs : List A) → xs ++ [] ≡ xs
append_nil [] = refl
append_nil (x ∷ xs) = ap (λ l. x ∷ l) (append_nil xs)

pub imports_withdraw : (E : List Event) (n : ℕ) → imports_of (E ++ Withdraw n ∷ []) ≡ imports_of E
imports_withdraw E n = imports_append E (Withdraw n ∷ []) ∙ append_nil (imports_of E)

-- an import leaves the others as live as they were
pub live_import : (E : List Event) (c : Statement) (n : ℕ) → is_live (E ++ Import c ∷ []) n ≡ is_live E n
live_import E c n = ap not (list_any-append (withdraws n) E (Import c ∷ []) ∙ or-false (list_any (withdraws n) E))

not_true : (b : Bool) → (b ≡ true → ⊥) → b ≡ false
not_true true h = absurd (h refl)
not_true false h = refl

-- so does the withdrawal of another
pub live_withdraw_other : (E : List Event) (i n : ℕ) → n ≢ i → is_live (E ++ Withdraw i ∷ []) n ≡ is_live E n
live_withdraw_other E i n apart =
    let other : (n == i) ≡ false = not_true (n == i) (λ e. apart (eqb-true n i e)) in
    let any : list_any (withdraws n) (Withdraw i ∷ []) ≡ false = or-false (n == i) ∙ other in
    ap not (list_any-append (withdraws n) E (Withdraw i ∷ []) ∙ ap (λ b. list_any (withdraws n) E || b) any ∙ or-false (list_any (withdraws n) E))

or_true : (b : Bool) → (b || true) ≡ true
or_true true = refl
or_true false = refl

-- what is withdrawn is not live
pub live_withdrawn : (E : List Event) (i : ℕ) → is_live (E ++ Withdraw i ∷ []) i ≡ false
live_withdrawn E i =
    let any : list_any (withdraws i) (Withdraw i ∷ []) ≡ true = or-false (i == i) ∙ eq-eqb i i refl in
    ap not (list_any-append (withdraws i) E (Withdraw i ∷ []) ∙ ap (λ b. list_any (withdraws i) E || b) any ∙ or_true (list_any (withdraws i) E))

-- a list with one more event that may follow
pub follow_push : (b : Bounds) (E : List Event) (e : Event) → AllFollow b E → Follows b E e → AllFollow b (E ++ e ∷ [])
follow_push b E e all next = λ n x at. ⊎_elim
    (λ (k : IsAt E n x).
    let below : n < length E = place_below E n x k in
    let fits : n ≤ length E = omega arith in
    rw take-append-le (all n x k))
    (λ (k : (n ≡ length E) × (e ≡ x)). rw (k.0, take-append_seam E (e ∷ [])) (subst (λ (y : Event). Follows b E y) k.1 next))
    (place_push E e n x at)

-- ---- the imports of a first part

-- an import stands behind those of the events before it
pub import_place : (E : List Event) (i : ℕ) (c : Statement) → IsAt E i (Import c) → IsAt (imports_of E) (length (imports_of (take i E))) c
import_place [] i c at = absurd at
import_place (Import d ∷ E) zero c at = cc at
import_place (Withdraw n ∷ E) zero c at = absurd (cc at)
import_place (Import d ∷ E) (suc i) c at = import_place E i c at
import_place (Withdraw n ∷ E) (suc i) c at = import_place E i c at

-- the imports of the first events are the first imports
pub take_imports : (E : List Event) (i : ℕ) → take (length (imports_of (take i E))) (imports_of E) ≡ imports_of (take i E)
take_imports [] zero = refl
take_imports [] (suc i) = refl
take_imports (e ∷ E) zero = refl
take_imports (Import c ∷ E) (suc i) = ap (λ L. c ∷ L) (take_imports E i)
take_imports (Withdraw n ∷ E) (suc i) = take_imports E i

-- one more of the first events
pub take_event : (E : List Event) (i : ℕ) (e : Event) → IsAt E i e → take (i + 1) E ≡ take i E ++ e ∷ []
take_event [] i e at = absurd at
take_event (x ∷ E) zero e at = ap (λ y. y ∷ []) at
take_event (x ∷ E) (suc i) e at =
    let n : suc i + 1 ≡ suc (i + 1) = omega arith in
    rw n (ap (λ F. x ∷ F) (take_event E i e at))

-- the event at an index
pub event_here : (E : List Event) (i : ℕ) (e x : Event) → i < length E → e ≡ get_or E i e → e ≡ x → IsAt E i x
event_here E i e x below at is = subst (λ y. IsAt E i y) is (place_get E i e below at)

pub more_import : (E : List Event) (i : ℕ) (c : Statement) → IsAt E i (Import c) → imports_of (take (i + 1) E) ≡ imports_of (take i E) ++ c ∷ []
more_import E i c at = ap imports_of (take_event E i (Import c) at) ∙ imports_append (take i E) (Import c ∷ [])

-- an event that is no import
pub more_other : (E : List Event) (i : ℕ) (e : Event) → IsAt E i e → ((c : Statement) → e ≢ Import c) → imports_of (take (i + 1) E) ≡ imports_of (take i E)
more_other E i (Import c) at other = absurd (other c refl)
more_other E i (Withdraw n) at other = ap imports_of (take_event E i (Withdraw n) at) ∙ imports_withdraw (take i E) n

-- ---- names

-- the first import with a name
pub named_here : (E : List Event) (i : ℕ) (c : Statement) (name : List ℕ) → IsAt E i (Import c) → LacksName (imports_of (take i E)) name → c.name ≡ name
    → IsNamed (imports_of E) name (length (imports_of (take i E)) + 1)
named_here E i c name at lacks named =
    let number : length (imports_of (take i E)) + 1 - 1 ≡ length (imports_of (take i E)) = omega arith in
    record {
      claim = c;
      place = (omega arith, rw number (import_place E i c at));
      named = named;
      first = rw (number, take_imports E i) lacks;
    }

-- ---- flags

push_default : {A : Type 0} (xs : List A) (d : A) (n : ℕ) → get_or (xs ++ d ∷ []) n d ≡ get_or xs n d
push_default [] d zero = refl
push_default [] d (suc n) = refl
push_default (x ∷ xs) d zero = refl
push_default (x ∷ xs) d (suc n) = push_default xs d n

-- an import more is live
pub flags_import : (E : List Event) (flags : List Bool) (c : Statement) → AreFlags E flags → AreFlags (E ++ Import c ∷ []) (flags ++ true ∷ [])
flags_import E flags c f = record {
  count = length_push flags true ∙ ap (λ n. n + 1) f.count ∙ sym (count_import E c);
  each = λ n. push_default flags true n ∙ f.each n ∙ sym (live_import E c (suc n));
  balance =
      let more : count_set (flags ++ true ∷ []) ≡ count_set flags + 1 = sum_by-append (λ f. cond f 1 0) flags (true ∷ []) in
      omega (arith, more, f.balance, length_push E (Import c), length_push flags true);
}

-- a withdrawn one is live no more
pub flags_withdraw : (E : List Event) (flags : List Bool) (n : ℕ) → AreFlags E flags → IsLive E n
    → AreFlags (E ++ Withdraw n ∷ []) (set flags (n - 1) false)
flags_withdraw E flags n f live = record {
  count = length-set flags (n - 1) false ∙ f.count ∙ sym (ap length (imports_withdraw E n));
  each = each;
  balance = omega (arith, falls, f.balance, length_push E (Withdraw n), length-set flags (n - 1) false);
}
  where
    number : suc (n - 1) ≡ n
    number = omega (arith, live.0)

    below : n - 1 < length flags
    below = omega (arith, live.0, live.1, f.count)

    was : get_or flags (n - 1) true ≡ true
    was = f.each (n - 1) ∙ ap (is_live E) number ∙ live.2

    falls : count_set (set flags (n - 1) false) + 1 ≡ count_set flags
    falls =
        let q : count_set (set flags (n - 1) false) + cond (get_or flags (n - 1) true) 1 0 ≡ count_set flags + 0 =
        sum_by-set (λ f. cond f 1 0) flags (n - 1) false true below in
        let r : cond {A = ℕ} (get_or flags (n - 1) true) 1 0 ≡ 1 = rw was refl in
        omega arith

    each : (m : ℕ) → get_or (set flags (n - 1) false) m true ≡ is_live (E ++ Withdraw n ∷ []) (suc m)
    each m = elim (cases_eq m (n - 1)) [
      | inl e ↦
          let same : n ≡ suc m = omega (arith, e, live.0) in
          rw (e, number) (get_or-set_same flags (n - 1) false true below ∙ sym (live_withdrawn E n))
      | inr apart ↦
          get_or-set_other flags (n - 1) m false true apart ∙ f.each m
          ∙ sym (live_withdraw_other E n (suc m) (λ same. apart (let k : suc m ≡ n = same in omega arith)))
    ]

-- a live import is counted
live_counted : (flags : List Bool) (i : ℕ) → i < length flags → get_or flags i true ≡ true → 1 ≤ count_set flags
live_counted [] i below is = absurd (omega arith)
live_counted (f ∷ flags) zero below is =
    let e : count_set (f ∷ flags) ≡ cond f 1 0 + count_set flags = sum_by-cons (λ f. cond f 1 0) f flags in
    let r : cond {A = ℕ} f 1 0 ≡ 1 = rw is refl in
    omega (arith, e, r)
live_counted (f ∷ flags) (suc i) below is =
    let e : count_set (f ∷ flags) ≡ cond f 1 0 + count_set flags = sum_by-cons (λ f. cond f 1 0) f flags in
    let l : 1 ≤ count_set flags = live_counted flags i (omega arith) is in
    omega (arith, e, l)

-- there are fewer than twice as many events as imports where an import is live
pub events_room : (E : List Event) (flags : List Bool) (n : ℕ) → AreFlags E flags → IsLive E n → length E + 1 ≤ length flags + length flags
events_room E flags n f live =
    let number : suc (n - 1) ≡ n = omega (arith, live.0) in
    let some : 1 ≤ count_set flags = live_counted flags (n - 1) (omega (arith, live.0, live.1, f.count)) (f.each (n - 1) ∙ ap (is_live E) number ∙ live.2) in
    omega (arith, some, f.balance)
