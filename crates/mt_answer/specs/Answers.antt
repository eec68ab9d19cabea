-- Answers, as texts of the command line and over HTTP.
use Rattle.std.specs.Prelude.{◌≡◌, ℕ, ◌⊎◌, List}
use Rattle.serde_json.specs.Data.{Data}
use Rattle.serde_json.specs.Written.{compact_text}
use Rattle.mt_http.specs.declared.responses.Media.{Media}
use Rattle.mt_http.specs.declared.responses.Media.TheVariants.{Json, Csv, Plain}
use Rattle.mt_derive.specs.declared.events.Event.{Event}
use Rattle.mt_cells.specs.declared.bounds.Bounds.{Bounds}
use Rattle.mt_cells.specs.declared.rules.RuleSet.{RuleSet}
use Rattle.mt_cells.specs.declared.asks.Part.{Part}
use Rattle.mt_cells.specs.declared.asks.Question.{Question}
use Rattle.mt_cells.specs.declared.asks.Question.TheVariants.{LeastM, Version}
use Rattle.mt_cells.specs.Asks.{sizes_of, IsInside, IsOutside}
use Rattle.mt_answer.specs.declared.replies.Answer.{Answer}
use Rattle.mt_answer.specs.declared.facts.Facts.{Facts}
use Rattle.mt_answer.specs.declared.facts.Fact.{Fact}
use Rattle.mt_answer.specs.declared.facts.Fact.TheVariants as fact
use Rattle.mt_answer.specs.Facts.{IsFound}
use Rattle.mt_answer.specs.Texts.{text_of}
use Rattle.mt_answer.specs.Bodies.{value_data, tree_data, least_data, version_data, outside_data}

-- the command line asks for neither
abbrev pub HasText : Question → Type 0
HasText (LeastM q s k) = ⊥
HasText Version = ⊥
HasText question = Unit {0}

-- the text of what answers the question over the imports
abbrev pub IsTextFor : Bounds → RuleSet → List Event → Question → List ℕ → Type 0
IsTextFor b rules E question text = (facts : Facts) × IsFound b rules E question facts × (text ≡ text_of facts.fact facts.version)

-- ---- over HTTP

-- a status, and a body of this type
pub record Reply : Type 0 where
  pub status : ℕ
  pub media : Media
  pub body : List ℕ

-- an answer, with its body as a list
abbrev pub shown : Answer → Reply
shown a = record { status = a.status; media = a.media; body = a.body.items }

-- the body is the data's compact text
abbrev pub json_reply : ℕ → Data → Reply
json_reply status d = record { status = status; media = Json; body = compact_text d }

-- the reply with what holds over so many imports; matrices and comma-separated values are the command line's texts
abbrev pub reply_of : Fact → ℕ → Reply
reply_of (fact.Value a k since) version = json_reply 200 (value_data a k since version)
reply_of (fact.Tree nodes) version = json_reply 200 (tree_data nodes.items version)
reply_of (fact.Matrix claim) version = record { status = 200; media = Plain; body = text_of (fact.Matrix claim) version }
reply_of (fact.Sheet text) version = record { status = 200; media = Csv; body = text_of (fact.Sheet text) version }
reply_of (fact.LeastM q s k m) version = json_reply 200 (least_data q s k m version)
reply_of fact.Version version = json_reply 200 (version_data version)

-- the reply to a question outside the bounds
abbrev pub outside_reply : Part → ℕ → Reply
outside_reply name number = json_reply 404 (outside_data name number)

-- the reply with what answers the question over the imports, or with what is outside the bounds
abbrev pub IsReplyFor : Bounds → RuleSet → List Event → Question → Reply → Type 0
IsReplyFor b rules E question reply =
    (IsInside b (sizes_of question) × (facts : Facts) × IsFound b rules E question facts × (reply ≡ reply_of facts.fact facts.version))
    ⊎ ((name : Part) × (number : ℕ) × IsOutside b (sizes_of question) name number × (reply ≡ outside_reply name number))
