use Rattle.std.proofs.Common.{◌≡◌, ◌++◌, ap, ◌∙◌}
use Rattle.mt_poly.proofs.CoprimalityLemmas.{coprime_same}
use Rattle.mt_poly.proofs.coprimality.are_coprime.Goals as goal

pub returns : goal.returns
returns c =
    let a = c.args.a.now in
    let b = c.args.b.now in
    let left : c.extend_from_slice-2.new.self.items ≡ a = c.in_ok-extend_from_slice-2.ensures.items ∙ ap (λ xs. xs ++ a) c.clear-2.ensures.items in
    let right : c.extend_from_slice.new.self.items ≡ b = c.in_ok-extend_from_slice.ensures.items ∙ ap (λ xs. xs ++ b) c.clear.ensures.items in
    record { answer = coprime_same c.args.order c.coprime_in_place.result _ _ _ _ left right c.coprime_in_place.ensures.answer }
