use Rattle.std.proofs.Common.{◌∷◌, ◌++◌, [], codes, decimal, ap, ◌∙◌}
use Rattle.std.proofs.lemmas.Result.{on_ok_weaker}
use Rattle.mt_cells.specs.Texts.{cell_text}
use Rattle.mt_answer.specs.Texts.{made_text, parents_text}
use Rattle.mt_answer.proofs.LineLemmas.{joined}
use Rattle.mt_answer.proofs.lines.push_node.Goals as goal

pub returns : goal.returns
returns c =
    let node = c.args.node in
    let rest = 32 ∷ cell_text node.cell ++ codes " k " ++ decimal node.k ++ 10 ∷ [] in
    let rule = 32 ∷ made_text node.made ++ 32 ∷ parents_text node.made in
    on_ok_weaker c.push_conclusion.result (λ e. e
    ∙ ap (λ z. z ++ rest) (c.in_ok-push_rule.ensures ∙ ap (λ z. z ++ rule) c.in_ok-push_labelled.ensures)
    ∙ joined c.args.text.now.items (decimal c.args.number) rule rest)
    c.push_conclusion.ensures
