use Rattle.std.proofs.Common.{ℕ, List, [], ◌∷◌, ◌++◌, codes, decimal, ap, sym, ◌∙◌, append_assoc}
use Rattle.mt_service.specs.declared.gate.TheConstants.{MOST_CHOICES}
use Rattle.mt_service.proofs.lines.choices_line.Goals as goal

pub returns : goal.returns
returns c =
    let number = decimal c.args.count in
    let label = codes " choices, more than " in
    let most = decimal MOST_CHOICES in
    let grouped = append_assoc (number ++ label) most (10 ∷ []) ∙ append_assoc number label (most ++ 10 ∷ []) in
    let written = c.in_ok-text.ensures.ok in
    ap (λ v. v.items) c.into_bytes.ensures.value ∙ written ∙ sym (ap (λ (xs : List ℕ). codes "refused: " ++ xs) grouped)
