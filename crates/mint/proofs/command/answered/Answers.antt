use Rattle.std.proofs.Common.{[], inl, inr, refl}
use Rattle.mint.proofs.command.answered.Goals as goal

pub returns-in-Err-clause-answer : goal.returns-in-Err-clause-answer
returns-in-Err-clause-answer g c = λ x y z.
    let bad = rw c.in-Err.is at c.in_ok-service.ensures.bad in
    ([], (refl, c.in_ok-service.ensures.left, inr (c.in_default.ensures, inl (bad.0, bad.1, refl, refl, bad.2, bad.3))))
