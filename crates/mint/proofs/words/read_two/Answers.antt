use Rattle.std.proofs.Common.{[]}
use Rattle.mint.proofs.words.read_two.Goals as goal

pub returns-in_err-m : goal.returns-in_err-m
returns-in_err-m c =
    rw c.from_residual-in_err-m.ensures (λ q m is.
    let read = c.in_ok-q.ensures.1 in
    let said = is.2 in
    c.in_err-m.ensures m [] is.1 (cc))
