-- What one item of a connection makes of a turn, and the turns so far.
use Rattle.std.proofs.Common.{◌≡◌, ℕ, ◌≤◌, Bool, true, List, ◌++◌, refl, sym, subst, inl, inr, Option}
use Rattle.mt_io.specs.Told.{WhereTold}
use Rattle.mt_http.specs.Buffers.{Held, ahead}
use Rattle.mt_http.specs.Reading.{request_at}
use Rattle.mt_http.specs.Responses.{memory_text, refusal_text}
use Rattle.mt_http.specs.declared.wire.Got.TheVariants as got
use Rattle.mt_http.specs.declared.wire.Refusal.{Refusal}
use Rattle.mt_http.specs.declared.wire.Wire.{Wire}
use Rattle.mt_server.specs.declared.connection.Next.{Next}
use Rattle.mt_server.specs.declared.connection.TheConstants.{MOST_RESPONSES}
use Rattle.mt_server.specs.Replies.{Response, with_reply, response_text, memory_reply}
use Rattle.mt_server.specs.Connections.{Viewed}
use Rattle.mt_server.specs.Turns.{IsSent, IsItem, IsRequestServed, IsTurn, HasServed, IsAfter}
use Rattle.mt_server.proofs.ToldLemmas.{told_map, told_then}
use Rattle.mt_server.proofs.TurnLemmas.{turned}

-- the response for want of memory
pub memory_sent : (turn : Next) (close close' : Bool) (n : ℕ) (before now : Option (List ℕ)) (bytes : List ℕ) (r : Response)
    → IsSent turn close n before now bytes → bytes ≡ memory_text close → close ≡ close' → r ≡ with_reply memory_reply
    → IsSent turn close' n before now (response_text r close')
memory_sent turn close close' n before now bytes r h text same is =
    subst (λ (q : Response). IsSent turn close' n before now (response_text q close')) (sym is)
    (subst (λ (b : Bool). IsSent turn b n before now (memory_text b)) same
    (subst (λ (t : List ℕ). IsSent turn close n before now t) text h))

request_turn : (turn : Next) (n : ℕ) (v w : Viewed) (stream : List ℕ) (held : Held) (after : List ℕ) (before now : Option (List ℕ)) (tally tally' : ℕ) (wire : Wire)
    → IsItem (got.Request wire) stream held after → IsRequestServed turn n v w (request_at held.bytes wire) before now tally tally'
    → IsTurn turn n v w stream held after before now tally tally'
request_turn turn n v w stream held after before now tally tally' wire h s =
    inl (record {
      exchange = record { request = request_at held.bytes wire; response = s.0 };
      begins = h.0;
      answered = s.1;
      counted = s.2;
      sent = s.3;
    })

-- the same where the stream is told
pub request_told : (left₀ left₁ left₂ : Option (List ℕ)) (front : List ℕ) (turn : Next) (n : ℕ) (v w : Viewed) (held : Held) (before before' now : Option (List ℕ)) (tally tally' : ℕ) (wire : Wire)
    → WhereTold left₀ left₁ (λ u after. IsItem (got.Request wire) (front ++ u) held after)
    → left₂ ≡ left₁ → before' ≡ before
    → IsRequestServed turn n v w (request_at held.bytes wire) before' now tally tally'
    → WhereTold left₀ left₂ (λ u after. IsTurn turn n v w (front ++ u) held after before now tally tally')
request_told left₀ left₁ left₂ front turn n v w held before before' now tally tally' wire h same same_written s =
    let served = subst (λ (b : Option (List ℕ)). IsRequestServed turn n v w (request_at held.bytes wire) b now tally tally') same_written s in
    subst (λ (l : Option (List ℕ)). WhereTold left₀ l (λ u after. IsTurn turn n v w (front ++ u) held after before now tally tally')) (sym same)
    (told_map left₀ left₁ (λ u after. IsItem (got.Request wire) (front ++ u) held after) (λ u after. IsTurn turn n v w (front ++ u) held after before now tally tally')
    (λ u after i. request_turn turn n v w (front ++ u) held after before now tally tally' wire i served) h)

refused_turn : (turn : Next) (n : ℕ) (v : Viewed) (stream : List ℕ) (held : Held) (after : List ℕ) (before now : Option (List ℕ)) (tally : ℕ) (e : Refusal)
    → IsItem (got.Refused e) stream held after → IsSent turn true n before now (refusal_text e)
    → IsTurn turn n v v stream held after before now tally tally
refused_turn turn n v stream held after before now tally e h sent =
    inr (inl (e, record { viewer = refl; stream_is = h.1; counted = refl }, h.0, sent))

-- a refusal, where the stream is told
pub refused_told : (left₀ left₁ left₂ : Option (List ℕ)) (front : List ℕ) (turn : Next) (n : ℕ) (v : Viewed) (held : Held) (before before' now : Option (List ℕ)) (tally : ℕ) (e : Refusal) (bytes : List ℕ)
    → WhereTold left₀ left₁ (λ u after. IsItem (got.Refused e) (front ++ u) held after)
    → left₂ ≡ left₁ → before' ≡ before → bytes ≡ refusal_text e
    → IsSent turn true n before' now bytes
    → WhereTold left₀ left₂ (λ u after. IsTurn turn n v v (front ++ u) held after before now tally tally)
refused_told left₀ left₁ left₂ front turn n v held before before' now tally e bytes h same same_written is sent =
    let whole = subst (λ (b : Option (List ℕ)). IsSent turn true n b now (refusal_text e)) same_written
    (subst (λ (t : List ℕ). IsSent turn true n before' now t) is sent) in
    subst (λ (l : Option (List ℕ)). WhereTold left₀ l (λ u after. IsTurn turn n v v (front ++ u) held after before now tally tally)) (sym same)
    (told_map left₀ left₁ (λ u after. IsItem (got.Refused e) (front ++ u) held after) (λ u after. IsTurn turn n v v (front ++ u) held after before now tally tally)
    (λ u after i. refused_turn turn n v (front ++ u) held after before now tally e i whole) h)

-- a turn behind those so far
pub turned_told : (left₀ left₁ left₂ : Option (List ℕ)) (held held' : Held) (turn : Next) (n : ℕ) (v₀ v w : Viewed) (before₀ before now : Option (List ℕ)) (tally₀ tally tally' : ℕ)
    → WhereTold left₀ left₁ (λ stream left. HasServed n v₀ v stream (ahead held ++ left) before₀ before tally₀ tally)
    → n ≤ MOST_RESPONSES
    → WhereTold left₁ left₂ (λ u left. IsTurn turn n v w (ahead held ++ u) held' left before now tally tally')
    → WhereTold left₀ left₂ (λ stream left. IsAfter turn n v₀ w stream (ahead held' ++ left) left before₀ now tally₀ tally')
turned_told left₀ left₁ left₂ held held' turn n v₀ v w before₀ before now tally₀ tally tally' h most t =
    told_then left₀ left₁ left₂
    (λ stream left. HasServed n v₀ v stream (ahead held ++ left) before₀ before tally₀ tally)
    (λ u left. IsTurn turn n v w (ahead held ++ u) held' left before now tally tally')
    (λ stream left. IsAfter turn n v₀ w stream (ahead held' ++ left) left before₀ now tally₀ tally')
    (λ stream u left s k. turned v₀ stream before₀ tally₀ turn n v w (ahead held ++ u) held' left before now tally tally' s most k) h t
