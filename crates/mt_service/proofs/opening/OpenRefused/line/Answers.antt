use Rattle.std.proofs.Common.{ℕ, List, [], ◌∷◌, ◌++◌, codes, decimal, ap, sym, ◌∙◌, append_assoc}
use Rattle.mt_derive.specs.declared.imports.TheConstants.{MOST_EVENTS}
use Rattle.mt_service.specs.Texts.{open_text}
use Rattle.mt_service.proofs.opening.OpenRefused.line.Goals as goal

pub returns-in_ok-text-in-TooMany : goal.returns-in_ok-text-in-TooMany
returns-in_ok-text-in-TooMany c =
    let number = decimal c.in-TooMany.count in
    let label = codes " records, more than " in
    let most = decimal MOST_EVENTS in
    let grouped = append_assoc (number ++ label) most (10 ∷ []) ∙ append_assoc number label (most ++ 10 ∷ []) in
    let written = c.in_ok-text-in-TooMany.ensures.ok in
    ap (λ v. v.items) c.into_bytes.ensures.value ∙ written ∙ sym (ap (λ (xs : List ℕ). codes "store: " ++ xs) grouped) ∙ sym (ap open_text c.in-TooMany.is)
