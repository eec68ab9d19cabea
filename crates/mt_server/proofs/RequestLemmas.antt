-- The statuses of replies, and replies for want of memory.
use Rattle.std.proofs.Common.{◌≡◌, ℕ, Bool, List, ◌∷◌, length, inl, inr, refl, sym, ap, ◌∙◌, subst, arith, Option, Result, Ok, Err, IfOk, MatchResult}
use Rattle.mt_cells.specs.declared.bounds.Bounds.{Bounds}
use Rattle.mt_cells.specs.declared.rules.RuleSet.{RuleSet}
use Rattle.mt_cells.specs.declared.asks.Question.{Question}
use Rattle.mt_derive.specs.declared.events.Event.{Event}
use Rattle.mt_http.specs.Items.{Request}
use Rattle.mt_http.specs.Responses.{IsStatus}
use Rattle.mt_http.specs.declared.finding.Asked.{Asked}
use Rattle.mt_http.specs.declared.finding.Asked.TheVariants as asked
use Rattle.mt_answer.specs.Answers.{Reply, reply_of}
use Rattle.mt_answer.specs.declared.facts.Fact.{Fact}
use Rattle.mt_answer.specs.declared.facts.Fact.TheVariants as fact
use Rattle.mt_service.specs.declared.outcomes.Outcome.{Outcome}
use Rattle.mt_service.specs.declared.outcomes.Outcome.TheVariants as outcome
use Rattle.mt_publish.specs.States.{Publication, next_miss}
use Rattle.mt_publish.specs.States as viewer
use Rattle.mt_table.specs.declared.published.Base.{Base}
use Rattle.mt_answer.specs.declared.replies.Answer.{Answer}
use Rattle.mt_answer.specs.Answers.{shown}
use Rattle.mt_server.specs.Offices.{before}
use Rattle.mt_server.specs.Turns.{reply_from, IsLooked}
use Rattle.mt_server.specs.Replies.{Response, with_reply, response_text, memory_reply, outcome_status, outcome_reply, IsAnswer, IsCompared, early_reply, short_reply}
use Rattle.mt_server.specs.Connections.{Viewed, OrMemory, IsView, or_zero, IsQuestionAnswered, IsTextAnswered, IsAskedAnswered, IsAnswered, keeper_fault, Counted}

-- ---- statuses

-- a status, and not that of a failed keeper
abbrev Fine : Reply → Type 0
Fine r = IsStatus r.status × (keeper_fault (with_reply r) ≡ 0)

fine_at : (r q : Reply) → r ≡ q → Fine q → Fine r
fine_at r q e h = subst Fine (sym e) h

fact_fine : (f : Fact) (n : ℕ) → Fine (reply_of f n)
fact_fine (fact.Value a k since) n = (refl, refl)
fact_fine (fact.Tree nodes) n = (refl, refl)
fact_fine (fact.Matrix claim) n = (refl, refl)
fact_fine (fact.Sheet text) n = (refl, refl)
fact_fine (fact.LeastM q s k m) n = (refl, refl)
fact_fine fact.Version n = (refl, refl)

answer_fine : (b : Bounds) (rules : RuleSet) (E : List Event) (q : Question) (k : ℕ) (r : Reply) → IsAnswer b rules E q k r → Fine r
answer_fine b rules E q k r (inl h) = fine_at r (early_reply k (length E)) h.2 (refl, refl)
answer_fine b rules E q k r (inr (h, inl i)) = fine_at r (reply_of i.1.fact i.1.version) i.3 (fact_fine i.1.fact i.1.version)
answer_fine b rules E q k r (inr (h, inr o)) = fine_at r _ o.3 (refl, refl)

compared_as : (P Q : Reply → Type 0) (n m : ℕ) (r : Reply) → ((x : Reply) → P x → Q x) → Q (short_reply n m) → IsCompared n m P r → Q r
compared_as P Q n m r f short (inl h) = subst Q (sym h.1) short
compared_as P Q n m r f short (inr h) = f r h.1

or_memory : (P Q : Reply → Type 0) (r : Reply) → ((x : Reply) → P x → Q x) → Q memory_reply → OrMemory P r → Q r
or_memory P Q r f memory (inl h) = f r h
or_memory P Q r f memory (inr e) = subst Q (sym e) memory

abbrev IsAnswerBy : Viewed → Question → ℕ → List Event → Reply → Type 0
IsAnswerBy v q k E r = IsAnswer v.publication.base.bounds v.publication.base.rules E q k r

pub question_fine : (v : Viewed) (q : Question) (k : ℕ) (r : Reply) (w : Viewed) → IsQuestionAnswered v q k r w
    → IsStatus r.status × (keeper_fault (with_reply r) ≡ 0)
question_fine v q k r w (inl h) =
    or_memory (IsAnswerBy v q k h.0) Fine r (λ x a. answer_fine v.publication.base.bounds v.publication.base.rules h.0 q k x a) (refl, refl) h.2
question_fine v q k r w (inr (inl h)) =
    or_memory (λ x. IsCompared (length h.0) (viewer.shown v) (IsAnswerBy v q k h.0) x) Fine r
    (λ x c. compared_as (IsAnswerBy v q k h.0) Fine (length h.0) (viewer.shown v) x
    (λ y a. answer_fine v.publication.base.bounds v.publication.base.rules h.0 q k y a) (refl, refl) c)
    (refl, refl) h.2
question_fine v q k r w (inr (inr h)) = fine_at r memory_reply h.1 (refl, refl)

outcome_fine : (o : Outcome) → IsStatus (outcome_status o)
outcome_fine (outcome.Form refused) = refl
outcome_fine (outcome.NoImport name) = refl
outcome_fine (outcome.AlreadyWithdrawn n name) = refl
outcome_fine (outcome.Range name n limit) = refl
outcome_fine (outcome.TooManyChoices count) = refl
outcome_fine (outcome.Already n name) = refl
outcome_fine (outcome.IsWithdrawn n name) = refl
outcome_fine (outcome.NameTaken n name) = refl
outcome_fine outcome.Full = refl
outcome_fine (outcome.Dependent form part choice coefficients) = refl
outcome_fine outcome.KeeperFault = refl
outcome_fine outcome.Memory = refl
outcome_fine (outcome.Accepted n name raised tried) = refl
outcome_fine (outcome.Withdrawn n name lowered tried) = refl

abbrev HasStatus : Reply → Type 0
HasStatus r = IsStatus r.status

text_status : (v : Viewed) (text : List ℕ) (r : Reply) (w : Viewed) → IsTextAnswered v text r w → HasStatus r
text_status v text r w (inl h) =
    or_memory (λ x. IsCompared (length (before h.0 h.1)) (viewer.shown v) (λ y. y ≡ outcome_reply h.0) x) HasStatus r
    (λ x c. compared_as (λ y. y ≡ outcome_reply h.0) HasStatus (length (before h.0 h.1)) (viewer.shown v) x
    (λ y e. subst HasStatus (sym e) (outcome_fine h.0)) refl c)
    refl h.4
text_status v text r w (inr h) = subst HasStatus (sym h.1) refl

abbrev Stated : Response → Type 0
Stated r = IsStatus r.reply.status

asked_status : (v : Viewed) (a : Asked) (body : List ℕ) (r : Response) (w : Viewed) → IsAskedAnswered v a body r w → Stated r
asked_status v (asked.Get q k) body r w h = subst Stated (sym h.2) (question_fine v q _ h.0 w h.1).0
asked_status v asked.Import body r w h = subst Stated (sym h.2) (text_status v body h.0 w h.1)
asked_status v asked.NoAddress body r w (e, inl s) = subst Stated (sym s) refl
asked_status v asked.NoAddress body r w (e, inr s) = subst Stated (sym s) refl
asked_status v (asked.BadMethod allow) body r w (e, inl s) = subst Stated (sym s) refl
asked_status v (asked.BadMethod allow) body r w (e, inr s) = subst Stated (sym s) refl

pub answered_status : (v : Viewed) (request : Request) (r : Response) (w : Viewed) → IsAnswered v request r w → IsStatus r.reply.status
answered_status v request r w h = asked_status v _ request.body r w h.2

-- ---- want of memory in place of a reply

asked_memory : (v : Viewed) (a : Asked) (body : List ℕ) (r : Response) (w : Viewed) → IsAskedAnswered v a body r w
    → IsAskedAnswered v a body (with_reply memory_reply) w
asked_memory v (asked.Get q k) body r w (reply, inl h, e) = (memory_reply, inl (h.0, h.1, inr refl), refl)
asked_memory v (asked.Get q k) body r w (reply, inr (inl h), e) = (memory_reply, inr (inl (h.0, h.1, inr refl)), refl)
asked_memory v (asked.Get q k) body r w (reply, inr (inr h), e) = (memory_reply, inr (inr (h.0, refl)), refl)
asked_memory v asked.Import body r w (reply, inl h, e) = (memory_reply, inl (h.0, h.1, h.2, h.3, inr refl), refl)
asked_memory v asked.Import body r w (reply, inr h, e) = (memory_reply, inr (h.0, refl), refl)
asked_memory v asked.NoAddress body r w h = (h.0, inr refl)
asked_memory v (asked.BadMethod allow) body r w h = (h.0, inr refl)

pub answered_memory : (v : Viewed) (request : Request) (r : Response) (w : Viewed) → IsAnswered v request r w
    → IsAnswered v request (with_reply memory_reply) w
answered_memory v request r w h = (h.0, h.1, asked_memory v _ request.body r w h.2)

pub counted_memory : (n old new : ℕ) → Counted n old new → Counted (keeper_fault (with_reply memory_reply)) old new
counted_memory n old new (inl h) = inl (omega arith)
counted_memory n old new (inr h) = inr h

-- ---- questions

compared_map : (n n' m m' : ℕ) (P Q : Reply → Type 0) (r : Reply) → n ≡ n' → m ≡ m' → ((x : Reply) → P x → Q x) → IsCompared n m P r → IsCompared n' m' Q r
compared_map n n' m m' P Q r en em f (inl h) =
    subst (λ (i : ℕ). IsCompared i m' Q r) en (subst (λ (j : ℕ). IsCompared n j Q r) em (inl h))
compared_map n n' m m' P Q r en em f (inr h) =
    subst (λ (i : ℕ). IsCompared i m' Q r) en (subst (λ (j : ℕ). IsCompared n j Q r) em (inr (h.0, f r h.1)))

abbrev state : Publication Base → List Event → List (List Event) → ℕ → Viewed
state p s l m = record { publication = p; seen = s; learnt = l; missed = m }

same_state : (v w : Viewed) (l : List (List Event)) → w.publication ≡ v.publication → w.seen ≡ v.seen → w.learnt ≡ l → w.missed ≡ v.missed
    → w ≡ record v { learnt = l }
same_state v w l p s e m =
    ap (λ (x : Publication Base). state x w.seen w.learnt w.missed) p
    ∙ ap (λ (x : List Event). state v.publication x w.learnt w.missed) s
    ∙ ap (λ (x : List (List Event)). state v.publication v.seen x w.missed) e
    ∙ ap (λ (x : ℕ). state v.publication v.seen l x) m

-- an answer over a front that was compared with what the viewer was shown, and learnt
pub looked_by : {E : Type 0} (result : Result Answer E) (v w : Viewed) (p : Publication Base) (q : Question) (k : ℕ) (L : List Event) (answer : Reply) (compared most : ℕ)
    → v.publication ≡ p → IsAnswer p.base.bounds p.base.rules L q k answer → compared ≡ length L → most ≡ viewer.shown v
    → w.publication ≡ v.publication → w.seen ≡ v.seen → w.learnt ≡ L ∷ v.learnt → w.missed ≡ v.missed
    → IfOk result (λ a. IsCompared compared most (λ r. r ≡ answer) (shown a))
    → IsLooked v q k (reply_from result) w
looked_by (Ok a) v w p q k L answer compared most same is c m e f g h judged =
    inl (
      L,
      same_state v w (L ∷ v.learnt) e f g h,
      inl (compared_map compared (length L) most (viewer.shown v) (λ r. r ≡ answer) (IsAnswerBy v q k L) (shown a) c m
          (λ x here. subst (IsAnswerBy v q k L) (sym here)
          (subst (λ (z : Publication Base). IsAnswer z.base.bounds z.base.rules L q k answer) (sym same) is)) judged),
    )
looked_by (Err a) v w p q k L answer compared most same is c m e f g h judged =
    inl (L, same_state v w (L ∷ v.learnt) e f g h, inr refl)

-- an answer over a view
pub question_viewed : {E : Type 0} (result : Result Answer E) (v w : Viewed) (q : Question) (k : ℕ)
    → IsView v w.seen w → IfOk result (λ a. IsAnswer v.publication.base.bounds v.publication.base.rules w.seen q k (shown a))
    → IsQuestionAnswered v q k (reply_from result) w
question_viewed (Ok a) v w q k view answer = inl (w.seen, view, inl answer)
question_viewed (Err a) v w q k view answer = inl (w.seen, view, inr refl)

looked_missed : (v w : Viewed) (q : Question) (k : ℕ) (r : Reply) → IsLooked (record v { missed = next_miss v.missed }) q k r w → IsQuestionAnswered v q k r w
looked_missed v w q k r (inl h) = inr (inl (h.0, h.1, h.2))
looked_missed v w q k r (inr h) = inr (inr (h.0, h.1))

-- or over a front, where no view was given
pub question_looked : (v u w : Viewed) (q : Question) (k : ℕ) (r : Reply) → u ≡ record v { missed = next_miss v.missed } → IsLooked u q k r w
    → IsQuestionAnswered v q k r w
question_looked v u w q k r e h = looked_missed v w q k r (subst (λ (z : Viewed). IsLooked z q k r w) e h)

pub get_answered : (v : Viewed) (a : Asked) (q : Question) (at_least : Option ℕ) (k : ℕ) (reply : Reply) (body : List ℕ) (r : Response) (w : Viewed)
    → a ≡ asked.Get q at_least → k ≡ or_zero at_least → IsQuestionAnswered v q k reply w → r ≡ with_reply reply
    → IsAskedAnswered v a body r w
get_answered v a q at_least k reply body r w is wanted h e =
    subst (λ (x : Asked). IsAskedAnswered v x body r w) (sym is)
    (reply, subst (λ (n : ℕ). IsQuestionAnswered v q n reply w) wanted h, e)

-- ---- what a request is answered

-- its bytes, where there is memory for them
pub bytes_answered : {B E : Type 0} (result : Result B E) (items : B → List ℕ) (v : Viewed) (request : Request) (d : Response) (w : Viewed) (close : Bool) (old new : ℕ)
    → IsAnswered v request d w → Counted (keeper_fault d) old new → IfOk result (λ b. items b ≡ response_text d close)
    → (response : Response) × IsAnswered v request response w × Counted (keeper_fault response) old new
    × MatchResult result (λ b. items b ≡ response_text response close) (λ _. response ≡ with_reply memory_reply)
bytes_answered (Ok b) items v request d w close old new a k h = (d, a, k, h)
bytes_answered (Err e) items v request d w close old new a k h =
    (with_reply memory_reply, answered_memory v request d w a, counted_memory (keeper_fault d) old new k, refl)
