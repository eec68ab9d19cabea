-- One turn of a connection, and what the turns so far did. Internal: a reader need not believe this.
use Rattle.std.specs.Prelude.{◌≡◌, ℕ, ◌⊎◌, ◌+◌, ◌==◌, ◌||◌, if◌then◌else◌, Bool, true, false, List, [], ◌∷◌, ◌++◌, length, Option, Result, Ok, Err}
use Rattle.mt_io.specs.Streams.{AppendsPrefix}
use Rattle.mt_io.specs.Told.{WhereTold}
use Rattle.mt_http.specs.Buffers.{Held, ahead}
use Rattle.mt_http.specs.Items.{Request, Begins}
use Rattle.mt_http.specs.Items as item
use Rattle.mt_http.specs.Reading.{IsFirst}
use Rattle.mt_http.specs.Responses.{refusal_text}
use Rattle.mt_http.specs.declared.wire.Got.{Got}
use Rattle.mt_http.specs.declared.wire.Refusal.{Refusal}
use Rattle.mt_answer.specs.declared.replies.Answer.{Answer}
use Rattle.mt_answer.specs.Answers.{Reply, shown}
use Rattle.mt_cells.specs.declared.asks.Question.{Question}
use Rattle.mt_derive.specs.declared.events.Event.{Event}
use Rattle.mt_publish.specs.States.{next_miss}
use Rattle.mt_publish.specs.States as viewer
use Rattle.mt_server.specs.declared.connection.Ended.TheVariants as ended
use Rattle.mt_server.specs.declared.connection.Next.{Next}
use Rattle.mt_server.specs.declared.connection.Next.TheVariants as next
use Rattle.mt_server.specs.declared.connection.TheConstants.{MOST_RESPONSES}
use Rattle.mt_server.specs.declared.replies.Draft.{Draft}
use Rattle.mt_server.specs.Replies.{Response, with_reply, response_text, memory_reply, IsAnswer, IsCompared}
use Rattle.mt_server.specs.Connections.{Viewed, OrMemory, Exchange, IsAnswered, AreAnswered, AreRequests, IsConnection, responses_text, keeper_fault, keeper_faults, Counted}

-- ---- results that may want memory

abbrev pub reply_from : {E : Type 0} → Result Answer E → Reply
reply_from (Ok answer) = shown answer
reply_from (Err e) = memory_reply

abbrev pub drafted : Draft → Response
drafted draft = record { reply = shown draft.answer; allow = draft.allow }

abbrev pub response_from : {E : Type 0} → Result Draft E → Response
response_from (Ok draft) = drafted draft
response_from (Err e) = with_reply memory_reply

-- ---- one request

-- the answer over a front that the viewer learns, or memory was wanting for a front
abbrev pub IsLooked : Viewed → Question → ℕ → Reply → Viewed → Type 0
IsLooked v question at_least reply w =
    ((E : List Event) × (w ≡ record v { learnt = E ∷ v.learnt })
    × OrMemory (IsCompared (length E) (viewer.shown v) (λ r. IsAnswer v.publication.base.bounds v.publication.base.rules E question at_least r)) reply)
    ⊎ ((w ≡ v) × (reply ≡ memory_reply))

-- ---- counts

-- a look is counted only beside a miss
abbrev pub IsLookCounted : ℕ → ℕ → ℕ → ℕ → Type 0
IsLookCounted looks looks' missed missed' =
    ((looks' ≡ looks) × (missed' ≡ missed)) ⊎ ((looks' ≡ next_miss looks) × (missed' ≡ next_miss missed))

-- ---- one turn

-- what follows a response that was written
abbrev pub next_after : Bool → ℕ → Next
next_after close n =
    if n == MOST_RESPONSES then next.Ended ended.Budget else if close then next.Ended ended.Close else next.Open

-- the bytes are written, or the write fails behind a part of them
abbrev pub IsSent : Next → Bool → ℕ → Option (List ℕ) → Option (List ℕ) → List ℕ → Type 0
IsSent turn close n before now text =
    ((turn ≡ next_after close n) × WhereTold before now (λ old new. new ≡ old ++ text))
    ⊎ ((turn ≡ next.Ended ended.Write) × WhereTold before now (λ old new. AppendsPrefix old new text))

-- what was read, and the bytes that it was read from
abbrev pub IsItem : Got → List ℕ → Held → List ℕ → Type 0
IsItem got stream held after = IsFirst got stream held after × (stream ≡ held.bytes ++ after)

abbrev pub is_last : ℕ → Exchange → Bool
is_last n x = x.request.close || (n == MOST_RESPONSES)

-- a request is answered by the n-th response
abbrev pub IsRequestServed : Next → ℕ → Viewed → Viewed → Request → Option (List ℕ) → Option (List ℕ) → ℕ → ℕ → Type 0
IsRequestServed turn n v w request before now tally tally' =
    (response : Response) × IsAnswered v request response w × Counted (keeper_fault response) tally tally'
    × IsSent turn (request.close || (n == MOST_RESPONSES)) n before now (response_text response (request.close || (n == MOST_RESPONSES)))

-- the n-th response is to the request that the stream begins with
pub record IsReplied (turn : Next) (n : ℕ) (v w : Viewed) (stream rest : List ℕ) (before now : Option (List ℕ)) (tally tally' : ℕ) : Type 0 where
  pub exchange : Exchange
  pub begins : Begins stream (item.asked exchange.request rest)
  pub answered : IsAnswered v exchange.request exchange.response w
  pub counted : Counted (keeper_fault exchange.response) tally tally'
  pub sent : IsSent turn (is_last n exchange) n before now (response_text exchange.response (is_last n exchange))

-- nothing was answered, and these bytes were read
pub record IsIdle (v w : Viewed) (stream read left : List ℕ) (tally tally' : ℕ) : Type 0 where
  pub viewer : w ≡ v
  pub stream_is : stream ≡ read ++ left
  pub counted : tally' ≡ tally

abbrev pub IsStop : Next → List ℕ → List ℕ → Type 0
IsStop turn stream read =
    ((turn ≡ next.Ended ended.Done) × Begins stream item.ended)
    ⊎ (((turn ≡ next.Ended ended.Cut) × Begins stream item.cut)
    ⊎ ((turn ≡ next.Ended ended.Read) × (Begins read item.ended ⊎ Begins read item.cut)))

-- one turn, at the n-th response
abbrev pub IsTurn : Next → ℕ → Viewed → Viewed → List ℕ → Held → List ℕ → Option (List ℕ) → Option (List ℕ) → ℕ → ℕ → Type 0
IsTurn turn n v w stream held after before now tally tally' =
    IsReplied turn n v w stream (ahead held ++ after) before now tally tally'
    ⊎ (((e : Refusal) × IsIdle v w stream held.bytes after tally tally' × Begins stream (item.refused e) × IsSent turn true n before now (refusal_text e))
    ⊎ (IsIdle v w stream held.bytes after tally tally' × WhereTold before now (λ old new. new ≡ old) × IsStop turn stream held.bytes))

-- ---- the turns so far

-- none of the requests asks that the connection closes
abbrev pub Stay : List Exchange → Type 0
Stay [] = Unit {0}
Stay (x ∷ xs) = (x.request.close ≡ false) × Stay xs

-- before the n-th response
pub record HasServed (n : ℕ) (v w : Viewed) (stream rest : List ℕ) (before now : Option (List ℕ)) (tally tally' : ℕ) : Type 0 where
  pub exchanges : List Exchange
  pub count : length exchanges + 1 ≡ n
  pub requests : AreRequests stream exchanges rest
  pub answers : AreAnswered v exchanges w
  pub stay : Stay exchanges
  pub wrote : WhereTold before now (λ old new. new ≡ old ++ responses_text 1 exchanges)
  pub faults : Counted (keeper_faults exchanges) tally tally'

-- what holds behind a turn, at the n-th response
abbrev pub IsAfter : Next → ℕ → Viewed → Viewed → List ℕ → List ℕ → List ℕ → Option (List ℕ) → Option (List ℕ) → ℕ → ℕ → Type 0
IsAfter next.Open n v w stream rest left before now tally tally' = HasServed (n + 1) v w stream rest before now tally tally'
IsAfter (next.Ended e) n v w stream rest left before now tally tally' = IsConnection v w stream left before now tally tally' e
