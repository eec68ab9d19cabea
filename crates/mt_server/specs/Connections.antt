-- What a connection answers, what its viewer knows then, and how it ends.
use Rattle.std.specs.Prelude.{◌≡◌, ℕ, ◌⊎◌, ◌+◌, ◌^◌, ◌-◌, ◌<◌, ◌≤◌, ◌==◌, ◌||◌, if◌then◌else◌, true, false, List, [], ◌∷◌, ◌++◌, length, Option, None, Some}
use mathlib.Core.List.{IsPrefix}
use Rattle.mt_io.specs.Told.{WhereTold}
use Rattle.mt_cells.specs.declared.asks.Question.{Question}
use Rattle.mt_derive.specs.declared.events.Event.{Event}
use Rattle.mt_publish.specs.States.{ViewerState, Extends, shown, next_miss}
use Rattle.mt_table.specs.declared.published.Base.{Base}
use Rattle.mt_service.specs.declared.outcomes.Outcome.{Outcome}
use Rattle.mt_http.specs.declared.finding.Asked.{Asked}
use Rattle.mt_http.specs.declared.finding.Asked.TheVariants as asked
use Rattle.mt_http.specs.Finding.{Finds, asked_for}
use Rattle.mt_http.specs.Items.{Request, Begins}
use Rattle.mt_http.specs.Items as item
use Rattle.mt_http.specs.declared.wire.Refusal.{Refusal}
use Rattle.mt_http.specs.Responses.{refusal_text}
use Rattle.mt_answer.specs.Answers.{Reply}
use Rattle.mt_server.specs.declared.connection.Ended.{Ended}
use Rattle.mt_server.specs.declared.connection.Ended.TheVariants as ended
use Rattle.mt_server.specs.declared.connection.TheConstants.{MOST_RESPONSES}
use Rattle.mt_server.specs.Offices.{before, IsImported}
use Rattle.mt_server.specs.Replies.{Response, with_reply, response_text, memory_reply, no_address, bad_method, outcome_reply, IsAnswer, IsCompared}

-- what a viewer of tables knows
abbrev pub Viewed : Type 0
Viewed = ViewerState Base Event

-- ---- one request

-- a view showed the list E, which extends all that the viewer saw or learnt before
abbrev pub IsView : Viewed → List Event → Viewed → Type 0
IsView v E w = Extends E v × (w ≡ record v { seen = E; learnt = [] })

-- no view was given, and the viewer learnt a front of the list E
abbrev pub IsLook : Viewed → List Event → Viewed → Type 0
IsLook v E w = w ≡ record v { learnt = E ∷ v.learnt; missed = next_miss v.missed }

-- the viewer learnt the front of an import, of the list M
abbrev pub IsLearnt : Viewed → List Event → Viewed → Type 0
IsLearnt v M w = w ≡ record v { learnt = M ∷ v.learnt }

-- P of the reply, or memory was wanting for it
abbrev pub OrMemory : (Reply → Type 0) → Reply → Type 0
OrMemory P reply = P reply ⊎ (reply ≡ memory_reply)

-- a viewer that knows v answers a question, over a view or a front, and knows w then
abbrev pub IsQuestionAnswered : Viewed → Question → ℕ → Reply → Viewed → Type 0
IsQuestionAnswered v question at_least reply w =
    let Answers : List Event → Reply → Type 0 = λ E r. IsAnswer v.publication.base.bounds v.publication.base.rules E question at_least r in
    ((E : List Event) × IsView v E w × OrMemory (Answers E) reply)
    ⊎ (((E : List Event) × IsLook v E w × OrMemory (IsCompared (length E) (shown v) (Answers E)) reply)
    ⊎ ((w ≡ record v { missed = next_miss v.missed }) × (reply ≡ memory_reply)))

-- a text is imported; memory may be wanting for that, too
abbrev pub IsTextAnswered : Viewed → List ℕ → Reply → Viewed → Type 0
IsTextAnswered v text reply w =
    ((o : Outcome) × (M : List Event) × IsImported v.publication.base text o M × IsLearnt v M w
    × OrMemory (IsCompared (length (before o M)) (shown v) (λ r. r ≡ outcome_reply o)) reply)
    ⊎ ((w ≡ v) × (reply ≡ memory_reply))

abbrev pub or_zero : Option ℕ → ℕ
or_zero None = 0
or_zero (Some n) = n

-- the response to what is asked, with this body
abbrev pub IsAskedAnswered : Viewed → Asked → List ℕ → Response → Viewed → Type 0
IsAskedAnswered v (asked.Get question at_least) body r w =
    (reply : Reply) × IsQuestionAnswered v question (or_zero at_least) reply w × (r ≡ with_reply reply)
IsAskedAnswered v asked.Import body r w = (reply : Reply) × IsTextAnswered v body reply w × (r ≡ with_reply reply)
IsAskedAnswered v asked.NoAddress body r w = (w ≡ v) × ((r ≡ no_address) ⊎ (r ≡ with_reply memory_reply))
IsAskedAnswered v (asked.BadMethod allow) body r w = (w ≡ v) × ((r ≡ bad_method allow) ⊎ (r ≡ with_reply memory_reply))

abbrev pub IsAnswered : Viewed → Request → Response → Viewed → Type 0
IsAnswered v request r w = (found : _) × Finds request.target found × IsAskedAnswered v (asked_for request.verb found) request.body r w

-- ---- one after the other

pub record Exchange : Type 0 where
  pub request : Request
  pub response : Response

-- a viewer that knows v answers the requests, and knows w then
abbrev pub AreAnswered : Viewed → List Exchange → Viewed → Type 0
AreAnswered v [] w = w ≡ v
AreAnswered v (x ∷ xs) w = (u : Viewed) × IsAnswered v x.request x.response u × AreAnswered u xs w

-- the stream begins with the requests, and then has the rest
abbrev pub AreRequests : List ℕ → List Exchange → List ℕ → Type 0
AreRequests stream [] rest = rest ≡ stream
AreRequests stream (x ∷ xs) rest = (behind : List ℕ) × Begins stream (item.asked x.request behind) × AreRequests behind xs rest

-- no request asks that the connection closes behind it
abbrev pub AllStay : List Exchange → Type 0
AllStay xs = (earlier later : List Exchange) (x : Exchange) → xs ≡ earlier ++ x ∷ later → x.request.close ≡ false

-- the last one does, and no other
abbrev pub LastCloses : List Exchange → Type 0
LastCloses xs = (earlier : List Exchange) × (x : Exchange) × (xs ≡ earlier ++ x ∷ []) × AllStay earlier × (x.request.close ≡ true)

-- the responses, the first of which is the n-th; one says that the connection closes where the request asks for that, and where there is no other after it
abbrev pub responses_text : ℕ → List Exchange → List ℕ
responses_text n [] = []
responses_text n (x ∷ xs) = response_text x.response (x.request.close || (n == MOST_RESPONSES)) ++ responses_text (n + 1) xs

-- the responses are written, and nothing is refused
abbrev pub AreWritten : List Exchange → List ℕ → Type 0
AreWritten xs written = written ≡ responses_text 1 xs

-- and behind them the refusal of what the rest begins with
abbrev pub IsRefusal : List Exchange → List ℕ → Refusal → List ℕ → Type 0
IsRefusal xs rest e written = AllStay xs × Begins rest (item.refused e) × (written ≡ responses_text 1 xs ++ refusal_text e)

-- how it ends, with the rest of the stream and what was written: of the rest these bytes were read
abbrev pub IsEnd : Ended → List Exchange → List ℕ → List ℕ → List ℕ → Type 0
IsEnd ended.Done xs rest read written = AllStay xs × (length xs < MOST_RESPONSES) × Begins rest item.ended × AreWritten xs written
IsEnd ended.Cut xs rest read written = AllStay xs × (length xs < MOST_RESPONSES) × Begins rest item.cut × AreWritten xs written
IsEnd ended.Close xs rest read written =
    (LastCloses xs × (length xs < MOST_RESPONSES) × AreWritten xs written)
    ⊎ ((e : Refusal) × IsRefusal xs rest e written × (length xs + 1 < MOST_RESPONSES))
IsEnd ended.Budget xs rest read written =
    ((length xs ≡ MOST_RESPONSES) × ((AllStay xs) ⊎ LastCloses xs) × AreWritten xs written)
    ⊎ ((e : Refusal) × IsRefusal xs rest e written × (length xs + 1 ≡ MOST_RESPONSES))
-- no whole item is left among the bytes that were read
IsEnd ended.Read xs rest read written =
    AllStay xs × (length xs < MOST_RESPONSES) × (Begins read item.ended ⊎ Begins read item.cut) × AreWritten xs written
IsEnd ended.Write xs rest read written =
    (length xs ≤ MOST_RESPONSES)
    × (IsPrefix written (responses_text 1 xs) ⊎ ((e : Refusal) × (all : List ℕ) × IsRefusal xs rest e all × IsPrefix written all))
IsEnd ended.Memory xs rest read written = (xs ≡ []) × (read ≡ []) × (written ≡ [])

-- 1 for a response that says that the keeper failed
abbrev pub keeper_fault : Response → ℕ
keeper_fault r = if r.reply.status == 503 then 1 else 0

abbrev pub keeper_faults : List Exchange → ℕ
keeper_faults [] = 0
keeper_faults (x ∷ xs) = keeper_fault x.response + keeper_faults xs

-- a count rose by as much as was counted, or it stands at the greatest u64
abbrev pub Counted : ℕ → ℕ → ℕ → Type 0
Counted n old new = (n + old ≤ new) ⊎ (2 ^ 64 - 1 ≤ new)

-- a connection: the requests that its stream began with, the responses to them, and how it ended. The tally is that of the keeper's faults
pub record IsConnection (v w : Viewed) (stream left : List ℕ) (before now : Option (List ℕ)) (tally tally' : ℕ) (e : Ended) : Type 0 where
  pub exchanges : List Exchange
  pub rest : List ℕ
  pub read : List ℕ
  pub written : List ℕ
  pub requests : AreRequests stream exchanges rest
  pub rest_is : rest ≡ read ++ left
  pub answers : AreAnswered v exchanges w
  pub wrote : WhereTold before now (λ old new. new ≡ old ++ written)
  pub end : IsEnd e exchanges rest read written
  pub faults : Counted (keeper_faults exchanges) tally tally'
