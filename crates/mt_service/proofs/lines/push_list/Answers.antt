use Rattle.std.proofs.Common.{ℕ, List, ◌∷◌, ◌++◌, ap, ◌∙◌, sym, append_assoc, decimal, flat_map}
use Rattle.mt_service.specs.Texts.{comma_list}
use Rattle.mt_service.proofs.ListLemmas.{comma_list-cons}
use Rattle.mt_service.proofs.lines.push_list.Goals as goal

pub returns : goal.returns
returns c =
    c.in_ok-push_behind.ensures
    ∙ ap (λ (xs : List ℕ). xs ++ flat_map (λ n. 44 ∷ decimal n) c.in-Some.rest.now) c.in_ok-push_number.ensures
    ∙ append_assoc c.args.text.now.items (decimal c.in-Some.first.now) (flat_map (λ n. 44 ∷ decimal n) c.in-Some.rest.now)
    ∙ ap (λ (xs : List ℕ). c.args.text.now.items ++ xs) (sym (comma_list-cons c.in-Some.first.now c.in-Some.rest.now))
    ∙ ap (λ (xs : List ℕ). c.args.text.now.items ++ comma_list xs) (sym c.in-Some.ensures.cases.0)
