-- What is outside the bounds is not inside; and answers, read over equal lists.
use Rattle.std.proofs.Common.{◌≡◌, ℕ, List, Option, Some, None, sym, subst}
use Rattle.std.specs.Prelude.{IfSome}
use Rattle.mt_cells.specs.declared.bounds.Bounds.{Bounds}
use Rattle.mt_cells.specs.declared.rules.RuleSet.{RuleSet}
use Rattle.mt_cells.specs.declared.asks.Question.{Question}
use Rattle.mt_cells.specs.declared.asks.Part.{Part}
use Rattle.mt_cells.specs.declared.asks.Part.TheVariants as part
use Rattle.mt_cells.specs.declared.sizes.Sizes.{Sizes}
use Rattle.mt_cells.specs.Asks.{IsFrom1, most_rows, IsInside, IsOutside}
use Rattle.mt_derive.specs.declared.events.Event.{Event}
use Rattle.mt_answer.specs.Answers.{Reply}
use Rattle.mt_server.specs.Replies.{IsAnswer}

pub not_inside : (b : Bounds) (o : Option Sizes) (name : Part) (number : ℕ) → IsOutside b o name number → ¬ IsInside b o
not_inside b None name number out inside = out
not_inside b (Some a) part.Q number out inside = out.1 inside.order
not_inside b (Some a) part.M number out inside = out.2 (subst (λ m. IfSome m (IsFrom1 b.m_max)) (sym out.0) inside.m)
not_inside b (Some a) part.S number out inside = out.3 (subst (λ s. IfSome s (IsFrom1 b.s_max)) (sym out.0) inside.s)
not_inside b (Some a) part.Depth number out inside = out.4 (subst (λ d. IfSome d (IsFrom1 (most_rows b a))) (sym out.0) inside.depth)

pub answer_same : (b b' : Bounds) (rules rules' : RuleSet) (E E' : List Event) (question : Question) (at_least : ℕ) (reply : Reply) → b ≡ b' → rules ≡ rules' → E ≡ E'
    → IsAnswer b rules E question at_least reply → IsAnswer b' rules' E' question at_least reply
answer_same b b' rules rules' E E' question at_least reply p q e h =
    subst (λ (z : Bounds × (RuleSet × List Event)). IsAnswer z.0 z.1.0 z.1.1 question at_least reply) (λ i. (p i, (q i, e i))) h
