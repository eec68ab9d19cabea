use Rattle.std.proofs.Common.{◌≡◌, ◌∷◌, [], decimal, ap}
use Rattle.mint.specs.Words.{depth_words}
use Rattle.mint.proofs.words.read_ask.Goals as goal

pub returns-in_err-m : goal.returns-in_err-m
returns-in_err-m c =
    rw c.from_residual-in_err-m.ensures (λ a is.
    let read = c.in_ok-q.ensures.1 in
    let said = is.words_are in
    c.in_err-m.ensures a.m (decimal a.s ∷ depth_words c.args.kind a.depth) is.m (cc))

pub returns-in_err-s : goal.returns-in_err-s
returns-in_err-s c =
    rw c.from_residual-in_err-s.ensures (λ a is.
    let read = c.in_ok-q.ensures.1 in
    let then_read = c.in_ok-m.ensures.1 in
    let said = is.words_are in
    c.in_err-s.ensures a.s (depth_words c.args.kind a.depth) is.s (cc))

pub returns-in_err-first_number-in-Ooa : goal.returns-in_err-first_number-in-Ooa
returns-in_err-first_number-in-Ooa c =
    rw c.from_residual-in_err-first_number-in-Ooa.ensures (λ a is.
    let read = c.in_ok-q.ensures.1 in
    let then_read = c.in_ok-m.ensures.1 in
    let last_read = c.in_ok-s.ensures.1 in
    let said = is.words_are in
    let depth : depth_words c.args.kind a.depth ≡ decimal a.depth ∷ [] = ap (λ k. depth_words k a.depth) c.in-Ooa.is in
    c.in_err-first_number-in-Ooa.ensures a.depth [] is.depth (cc))
