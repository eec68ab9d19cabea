-- What requests are answered, as responses.
use Rattle.std.specs.Prelude.{◌≡◌, ℕ, ◌⊎◌, ◌<◌, ◌≤◌, Bool, List, [], ◌∷◌, length, codes, Option, None, Some}
use Rattle.serde_json.specs.Data.{Data, string, object}
use Rattle.mt_cells.specs.declared.bounds.Bounds.{Bounds}
use Rattle.mt_cells.specs.declared.rules.RuleSet.{RuleSet}
use Rattle.mt_cells.specs.declared.asks.Question.{Question}
use Rattle.mt_cells.specs.Asks.{sizes_of, IsInside}
use Rattle.mt_derive.specs.declared.events.Event.{Event}
use Rattle.mt_http.specs.declared.responses.Allow.{Allow}
use Rattle.mt_http.specs.declared.responses.Media.TheVariants.{Json}
use Rattle.mt_http.specs.Responses.{response}
use Rattle.mt_answer.specs.Answers.{Reply, json_reply, IsReplyFor}
use Rattle.mt_answer.specs.Bodies.{natural, members}
use Rattle.mt_service.specs.Bodies.{outcome_data}
use Rattle.mt_service.specs.declared.outcomes.Outcome.{Outcome}
use Rattle.mt_service.specs.declared.outcomes.Outcome.TheVariants as outcome

-- a reply, and the methods of the address where another one was asked for
pub record Response : Type 0 where
  pub reply : Reply
  pub allow : Option Allow

abbrev pub with_reply : Reply → Response
with_reply reply = record { reply = reply; allow = None }

-- its bytes, and whether the connection closes behind it
abbrev pub response_text : Response → Bool → List ℕ
response_text r close = response r.reply.status r.reply.media r.allow r.reply.body close

-- ---- replies that need no table

abbrev pub memory_reply : Reply
memory_reply = record { status = 507; media = Json; body = codes "{\"error\":\"memory\"}" }

abbrev pub address_data : Data
address_data = object (members ((codes "error", string (codes "no such address")) ∷ []))

abbrev pub no_address : Response
no_address = with_reply (json_reply 404 address_data)

abbrev pub bad_method : Allow → Response
bad_method allow = record { reply = record { status = 405; media = Json; body = [] }; allow = Some allow }

-- ---- imports

abbrev pub outcome_status : Outcome → ℕ
outcome_status (outcome.Accepted n name raised tried) = 200
outcome_status (outcome.Withdrawn n name lowered tried) = 200
outcome_status (outcome.Already n name) = 200
outcome_status (outcome.AlreadyWithdrawn n name) = 200
outcome_status (outcome.IsWithdrawn n name) = 409
outcome_status (outcome.NameTaken n name) = 409
outcome_status outcome.Full = 409
outcome_status outcome.KeeperFault = 503
outcome_status outcome.Memory = 507
outcome_status o = 422

abbrev pub outcome_reply : Outcome → Reply
outcome_reply o = json_reply (outcome_status o) (outcome_data o)

-- ---- questions

-- the list has so many events, which are fewer than were asked for
abbrev pub early_data : ℕ → ℕ → Data
early_data at_least version = object (members (
    (codes "at_least", natural at_least)
    ∷ (codes "error", string (codes "not yet"))
    ∷ (codes "version", natural version)
    ∷ []))

abbrev pub early_reply : ℕ → ℕ → Reply
early_reply at_least version = json_reply 409 (early_data at_least version)

-- the reply to a question over the list E, which is to have so many events at least; what is outside the bounds is said over any list
abbrev pub IsAnswer : Bounds → RuleSet → List Event → Question → ℕ → Reply → Type 0
IsAnswer b rules E question at_least reply =
    (IsInside b (sizes_of question) × (length E < at_least) × (reply ≡ early_reply at_least (length E)))
    ⊎ ((IsInside b (sizes_of question) → at_least ≤ length E) × IsReplyFor b rules E question reply)

-- ---- lists that fall short

-- a list of so many events was compared, and the viewer was shown more
abbrev pub short_data : ℕ → ℕ → Data
short_data compared shown = object (members (
    (codes "error", string (codes "front"))
    ∷ (codes "front", natural compared)
    ∷ (codes "shown", natural shown)
    ∷ []))

abbrev pub short_reply : ℕ → ℕ → Reply
short_reply compared shown = json_reply 500 (short_data compared shown)

-- both numbers where a list has fewer events than the viewer was shown, else a reply with P
abbrev pub IsCompared : ℕ → ℕ → (Reply → Type 0) → Reply → Type 0
IsCompared compared shown P reply =
    ((compared < shown) × (reply ≡ short_reply compared shown)) ⊎ ((shown ≤ compared) × P reply)
