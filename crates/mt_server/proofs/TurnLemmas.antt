-- A turn, behind those of a connection so far.
use Rattle.std.proofs.Common.{◌≡◌, ◌≢◌, ℕ, ◌+◌, ◌≤◌, ◌<◌, ◌^◌, ◌-◌, ◌==◌, ◌||◌, ◌⊎◌, cond, Bool, true, false, List, [], ◌∷◌, ◌++◌, length, take, drop, true≢false, inl, inr, refl, sym, ap, ◌∙◌, subst, arith, append_assoc, length-append, Option}
use Rattle.std.proofs.lemmas.Bool.Decides.{eqb_tells}
use mathlib.Core.List.{IsPrefix}
use Rattle.std.proofs.lemmas.List.{take-append-drop}
use Rattle.mt_io.specs.Told.{WhereTold}
use Rattle.mt_http.specs.Buffers.{Held, ahead}
use Rattle.mt_http.specs.Items.{Begins}
use Rattle.mt_http.specs.Items as item
use Rattle.mt_http.specs.Responses.{refusal_text}
use Rattle.mt_http.specs.declared.wire.Refusal.{Refusal}
use Rattle.mt_server.specs.declared.connection.Ended.{Ended}
use Rattle.mt_server.specs.declared.connection.Ended.TheVariants as ended
use Rattle.mt_server.specs.declared.connection.Next.{Next}
use Rattle.mt_server.specs.declared.connection.Next.TheVariants as next
use Rattle.mt_server.specs.declared.connection.TheConstants.{MOST_RESPONSES}
use Rattle.mt_server.specs.Replies.{response_text}
use Rattle.mt_server.specs.Connections.{Viewed, Exchange, AreAnswered, AllStay, LastCloses, responses_text, IsEnd, IsConnection, keeper_faults, Counted}
use Rattle.mt_server.specs.Turns.{next_after, IsSent, is_last, IsReplied, IsIdle, IsStop, IsTurn, HasServed, IsAfter, IsLookCounted}
use Rattle.mt_server.proofs.ToldLemmas.{told_text, told_same, told_part}
use Rattle.mt_server.proofs.ExchangeLemmas.{answers_more, requests_more, responses_more, stay_more, all_stay, faults_more}

-- ---- what follows a response

-- it is the last that there may be, or one that closes the connection, or neither
abbrev IsNextOf : Next → Bool → ℕ → Type 0
IsNextOf turn close n =
    ((n ≡ MOST_RESPONSES) × (turn ≡ next.Ended ended.Budget))
    ⊎ ((((n == MOST_RESPONSES) ≡ false) × (n ≢ MOST_RESPONSES) × (close ≡ true) × (turn ≡ next.Ended ended.Close))
    ⊎ (((n == MOST_RESPONSES) ≡ false) × (n ≢ MOST_RESPONSES) × (close ≡ false) × (turn ≡ next.Open)))

open_or_close : (turn : Next) (close : Bool) (n : ℕ) → (n == MOST_RESPONSES) ≡ false → n ≢ MOST_RESPONSES
    → turn ≡ cond close (next.Ended ended.Close) next.Open → IsNextOf turn close n
open_or_close turn true n e room is = inr (inl (e, room, refl, is))
open_or_close turn false n e room is = inr (inr (e, room, refl, is))

next_of : (turn : Next) (close : Bool) (n : ℕ) → turn ≡ next_after close n → IsNextOf turn close n
next_of turn close n is =
    elim (eqb_tells n MOST_RESPONSES) [
      | inl full ↦
          inl (full.1, is ∙ ap (λ (b : Bool). cond b (next.Ended ended.Budget) (cond close (next.Ended ended.Close) next.Open)) full.0)
      | inr room ↦
          open_or_close turn close n room.0 room.1
          (is ∙ ap (λ (b : Bool). cond b (next.Ended ended.Budget) (cond close (next.Ended ended.Close) next.Open)) room.0)
    ]

-- where it isn't the last that there may be, only the request closes
closed_by : (close last answer : Bool) → last ≡ false → (close || last) ≡ answer → close ≡ answer
closed_by true last answer e h = h
closed_by false last answer e h = sym e ∙ h

closes_or_stays : (close : Bool) → (close ≡ true) ⊎ (close ≡ false)
closes_or_stays true = inl refl
closes_or_stays false = inr refl

-- a part of a text begins it
part_begins : (a b : List ℕ) (k : ℕ) (all : List ℕ) → all ≡ a ++ b → IsPrefix (a ++ take k b) all
part_begins a b k all e =
    (drop k b, append_assoc a (take k b) (drop k b) ∙ ap (λ (t : List ℕ). a ++ t) (take-append-drop k b) ∙ sym e)

-- ---- looks

-- the looks rose by at most as much as the misses, or the misses stand at the greatest u64
pub looks_more : (l₀ l₁ l₂ m₀ m₁ m₂ : ℕ) → (l₁ + m₀ ≤ l₀ + m₁) ⊎ (2 ^ 64 - 1 ≤ m₁) → IsLookCounted l₁ l₂ m₁ m₂
    → (l₂ + m₀ ≤ l₀ + m₂) ⊎ (2 ^ 64 - 1 ≤ m₂)
looks_more l₀ l₁ l₂ m₀ m₁ m₂ (inl a) (inl b) = inl (omega (arith, a, b.0, b.1))
looks_more l₀ l₁ l₂ m₀ m₁ m₂ (inr a) (inl b) = inr (omega (arith, a, b.1))
looks_more l₀ l₁ l₂ m₀ m₁ m₂ (inr a) (inr b) = inr (omega (arith, a, b.1))
looks_more l₀ l₁ l₂ m₀ m₁ m₂ (inl a) (inr b) = grind arith

-- ---- turns

module _ (v₀ : Viewed) (stream₀ : List ℕ) (before₀ : Option (List ℕ)) (tally₀ : ℕ) where
  module _ (n : ℕ) (v w : Viewed) (stream read left : List ℕ) (before now : Option (List ℕ)) (tally tally' : ℕ) where
    abbrev Before : Type 0
    Before = HasServed n v₀ v stream₀ stream before₀ before tally₀ tally

    -- one more that was answered ends it so
    replied_end : (turn : Next) (h : Before) (r : IsReplied turn n v w stream (read ++ left) before now tally tally') (e : Ended) (written : List ℕ)
        → WhereTold before₀ now (λ old new. new ≡ old ++ written)
        → IsEnd e (h.exchanges ++ r.exchange ∷ []) (read ++ left) read written
        → IsConnection v₀ w stream₀ left before₀ now tally₀ tally' e
    replied_end turn h r e written wrote end = record {
      exchanges = h.exchanges ++ r.exchange ∷ [];
      rest = read ++ left;
      read = read;
      written = written;
      requests = requests_more stream₀ stream (read ++ left) h.exchanges r.exchange h.requests r.begins;
      rest_is = refl;
      answers = answers_more v₀ v w h.exchanges r.exchange h.answers r.answered;
      wrote = wrote;
      end = end;
      faults = faults_more h.exchanges r.exchange tally₀ tally tally' h.faults r.counted;
    }

    -- or goes on
    replied_open : (turn : Next) (h : Before) (r : IsReplied turn n v w stream (read ++ left) before now tally tally')
        → r.exchange.request.close ≡ false
        → WhereTold before₀ now (λ old new. new ≡ old ++ responses_text 1 (h.exchanges ++ r.exchange ∷ []))
        → HasServed (n + 1) v₀ w stream₀ (read ++ left) before₀ now tally₀ tally'
    replied_open turn h r stays wrote = record {
      exchanges = h.exchanges ++ r.exchange ∷ [];
      count = omega (arith, h.count, length-append h.exchanges (r.exchange ∷ []));
      requests = requests_more stream₀ stream (read ++ left) h.exchanges r.exchange h.requests r.begins;
      answers = answers_more v₀ v w h.exchanges r.exchange h.answers r.answered;
      stay = stay_more h.exchanges r.exchange h.stay stays;
      wrote = wrote;
      faults = faults_more h.exchanges r.exchange tally₀ tally tally' h.faults r.counted;
    }

    -- how many there are then, and what they are as bytes
    replied_len : (h : Before) (x : Exchange) → length (h.exchanges ++ x ∷ []) ≡ n
    replied_len h x = omega (arith, h.count, length-append h.exchanges (x ∷ []))

    replied_text : (h : Before) (x : Exchange)
        → responses_text 1 (h.exchanges ++ x ∷ []) ≡ responses_text 1 h.exchanges ++ response_text x.response (is_last n x)
    replied_text h x = responses_more 1 n h.exchanges x (omega (arith, h.count))

    stay_or_close : (h : Before) (x : Exchange) → AllStay (h.exchanges ++ x ∷ []) ⊎ LastCloses (h.exchanges ++ x ∷ [])
    stay_or_close h x =
        elim (closes_or_stays x.request.close) [
          | inl closes ↦ inr (h.exchanges, x, refl, all_stay h.exchanges h.stay, closes)
          | inr stays ↦ inl (all_stay (h.exchanges ++ x ∷ []) (stay_more h.exchanges x h.stay stays))
        ]

    -- a response
    pub replied : (turn : Next) → Before → n ≤ MOST_RESPONSES → IsReplied turn n v w stream (read ++ left) before now tally tally'
        → IsAfter turn n v₀ w stream₀ (read ++ left) left before₀ now tally₀ tally'
    replied turn h most r =
        let x = r.exchange in
        let xs : List Exchange = h.exchanges ++ x ∷ [] in
        let text = response_text x.response (is_last n x) in
        let len = replied_len h x in
        let After : Next → Type 0 = λ t. IsAfter t n v₀ w stream₀ (read ++ left) left before₀ now tally₀ tally' in
        elim r.sent [
          | inl sent ↦
              let wrote = subst (λ (t : List ℕ). WhereTold before₀ now (λ old new. new ≡ old ++ t)) (sym (replied_text h x))
              (told_text before₀ before now (responses_text 1 h.exchanges) text h.wrote sent.1) in
              elim (next_of turn (is_last n x) n sent.0) [
                | inl full ↦
                    subst After (sym full.1)
                    (replied_end turn h r ended.Budget (responses_text 1 xs) wrote (inl (len ∙ full.0, stay_or_close h x, refl)))
                | inr (inl room) ↦
                    let closes = closed_by x.request.close (n == MOST_RESPONSES) true room.0 room.2 in
                    let few : length xs < MOST_RESPONSES = omega (arith, len, most, room.1) in
                    subst After (sym room.3)
                    (replied_end turn h r ended.Close (responses_text 1 xs) wrote
                    (inl ((h.exchanges, x, refl, all_stay h.exchanges h.stay, closes), few, refl)))
                | inr (inr room) ↦
                    let stays = closed_by x.request.close (n == MOST_RESPONSES) false room.0 room.2 in
                    subst After (sym room.3) (replied_open turn h r stays wrote)
              ]
          | inr fault ↦
              let part = told_part before₀ before now (responses_text 1 h.exchanges) text h.wrote fault.1 in
              let low : length xs ≤ MOST_RESPONSES = omega (arith, len, most) in
              subst After (sym fault.0)
              (replied_end turn h r ended.Write (responses_text 1 h.exchanges ++ take part.0 text) part.1
              (low, inl (part_begins (responses_text 1 h.exchanges) text part.0 (responses_text 1 xs) (replied_text h x))))
        ]

    -- it ends so where nothing more is answered
    idle_end : (h : Before) (i : IsIdle v w stream read left tally tally') (e : Ended) (written : List ℕ)
        → WhereTold before₀ now (λ old new. new ≡ old ++ written)
        → IsEnd e h.exchanges stream read written
        → IsConnection v₀ w stream₀ left before₀ now tally₀ tally' e
    idle_end h i e written wrote end = record {
      exchanges = h.exchanges;
      rest = stream;
      read = read;
      written = written;
      requests = h.requests;
      rest_is = i.stream_is;
      answers = subst (λ (u : Viewed). AreAnswered v₀ h.exchanges u) (sym i.viewer) h.answers;
      wrote = wrote;
      end = end;
      faults = subst (λ (t : ℕ). Counted (keeper_faults h.exchanges) tally₀ t) (sym i.counted) h.faults;
    }

    -- a refusal
    pub refused : (turn : Next) (rest : List ℕ) (e : Refusal) → Before → n ≤ MOST_RESPONSES → IsIdle v w stream read left tally tally' → Begins stream (item.refused e)
        → IsSent turn true n before now (refusal_text e)
        → IsAfter turn n v₀ w stream₀ rest left before₀ now tally₀ tally'
    refused turn rest e h most i begins sent =
        let xs = h.exchanges in
        let text = refusal_text e in
        let stay = all_stay xs h.stay in
        let After : Next → Type 0 = λ t. IsAfter t n v₀ w stream₀ rest left before₀ now tally₀ tally' in
        elim sent [
          | inl whole ↦
              let wrote = told_text before₀ before now (responses_text 1 xs) text h.wrote whole.1 in
              elim (next_of turn true n whole.0) [
                | inl full ↦
                    subst After (sym full.1)
                    (idle_end h i ended.Budget (responses_text 1 xs ++ text) wrote (inr (e, (stay, begins, refl), h.count ∙ full.0)))
                | inr (inl room) ↦
                    let few : length xs + 1 < MOST_RESPONSES = omega (arith, h.count, most, room.1) in
                    subst After (sym room.3)
                    (idle_end h i ended.Close (responses_text 1 xs ++ text) wrote (inr (e, (stay, begins, refl), few)))
                | inr (inr room) ↦ absurd (true≢false room.2)
              ]
          | inr fault ↦
              let part = told_part before₀ before now (responses_text 1 xs) text h.wrote fault.1 in
              let low : length xs ≤ MOST_RESPONSES = omega (arith, h.count, most) in
              let all = responses_text 1 xs ++ text in
              subst After (sym fault.0)
              (idle_end h i ended.Write (responses_text 1 xs ++ take part.0 text) part.1
              (low, inr (e, all, (stay, begins, refl), part_begins (responses_text 1 xs) text part.0 all refl)))
        ]

    -- no response
    pub stopped : (turn : Next) (rest : List ℕ) → Before → n ≤ MOST_RESPONSES → IsIdle v w stream read left tally tally' → WhereTold before now (λ old new. new ≡ old)
        → IsStop turn stream read
        → IsAfter turn n v₀ w stream₀ rest left before₀ now tally₀ tally'
    stopped turn rest h most i same stop =
        let xs = h.exchanges in
        let stay = all_stay xs h.stay in
        let wrote = told_same before₀ before now (responses_text 1 xs) h.wrote same in
        let few : length xs < MOST_RESPONSES = omega (arith, h.count, most) in
        let After : Next → Type 0 = λ t. IsAfter t n v₀ w stream₀ rest left before₀ now tally₀ tally' in
        elim stop [
          | inl done ↦ subst After (sym done.0) (idle_end h i ended.Done (responses_text 1 xs) wrote (stay, few, done.1, refl))
          | inr (inl cut) ↦ subst After (sym cut.0) (idle_end h i ended.Cut (responses_text 1 xs) wrote (stay, few, cut.1, refl))
          | inr (inr fault) ↦ subst After (sym fault.0) (idle_end h i ended.Read (responses_text 1 xs) wrote (stay, few, fault.1, refl))
        ]

  -- any turn
  pub turned : (turn : Next) (n : ℕ) (v w : Viewed) (stream : List ℕ) (held : Held) (left : List ℕ) (before now : Option (List ℕ)) (tally tally' : ℕ)
      → HasServed n v₀ v stream₀ stream before₀ before tally₀ tally → n ≤ MOST_RESPONSES
      → IsTurn turn n v w stream held left before now tally tally'
      → IsAfter turn n v₀ w stream₀ (ahead held ++ left) left before₀ now tally₀ tally'
  turned turn n v w stream held left before now tally tally' h most t =
      elim t [
        | inl r ↦ replied n v w stream (ahead held) left before now tally tally' turn h most r
        | inr (inl e) ↦ refused n v w stream held.bytes left before now tally tally' turn (ahead held ++ left) e.0 h most e.1 e.2 e.3
        | inr (inr i) ↦ stopped n v w stream held.bytes left before now tally tally' turn (ahead held ++ left) h most i.0 i.1 i.2
      ]
