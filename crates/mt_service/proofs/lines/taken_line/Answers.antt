use Rattle.std.proofs.Common.{ℕ, List, [], ◌∷◌, ◌++◌, codes, decimal, ap, ap₂, ◌∙◌}
use Rattle.mt_service.proofs.lines.taken_line.Goals as goal

pub returns : goal.returns
returns c =
    let words = codes " is taken by import " in
    let named = c.in_ok-extend_from_slice.ensures.items ∙ ap₂ (λ (xs ys : List ℕ). xs ++ ys) c.in_ok-text.ensures.items c.bytes.ensures.value in
    let worded = c.in_ok-extend_from_slice-2.ensures.items ∙ ap (λ (xs : List ℕ). xs ++ words) named in
    let numbered = c.in_ok-push_number.ensures ∙ ap (λ (xs : List ℕ). xs ++ decimal c.args.number) worded in
    c.in_ok-push.ensures.items ∙ ap (λ (xs : List ℕ). xs ++ 10 ∷ []) numbered
