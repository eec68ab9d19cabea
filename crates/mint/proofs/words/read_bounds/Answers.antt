use Rattle.std.proofs.Common.{arith}
use Rattle.std.proofs.lemmas.Str.Pattern.{split_parts}
use Rattle.mint.proofs.WordLemmas.{bounds_cut, bounds_read}
use Rattle.mint.proofs.words.read_bounds.Goals as goal

pub returns-in_err-m : goal.returns-in_err-m
returns-in_err-m c =
    rw c.from_residual.ensures (λ b e. rw c.in_err-m.was at (bounds_cut c.args.word.now c.split_once.result c.split_once.ensures.cases b e))

pub returns-in_err-plain_number : goal.returns-in_err-plain_number
returns-in_err-plain_number c =
    rw c.from_residual-in_err-plain_number.ensures (λ b e.
    let cut = rw c.in_ok-m.was at (bounds_cut c.args.word.now c.split_once.result c.split_once.ensures.cases b e) in
    let high = b.m_high in
    c.in_err-plain_number.ensures b.m_max (omega arith) cut.0)

pub returns-in_err-plain_number-2 : goal.returns-in_err-plain_number-2
returns-in_err-plain_number-2 c =
    rw c.from_residual-in_err-plain_number-2.ensures (λ b e.
    let cut = rw c.in_ok-m.was at (bounds_cut c.args.word.now c.split_once.result c.split_once.ensures.cases b e) in
    let high = b.s_high in
    c.in_err-plain_number-2.ensures b.s_max (omega arith) cut.1)

pub returns : goal.returns
returns c =
    let word = c.args.word.now in
    let parts = rw c.in_ok-m.was at (split_parts 44 word c.split_once.result c.split_once.ensures.cases (omega arith)) in
    let m = c.in_ok-plain_number.ensures in
    let s = c.in_ok-plain_number-2.ensures in
    bounds_read word c.in_ok-m.m.now c.in_ok-m.s.now c.in_ok-plain_number.field-0 c.in_ok-plain_number-2.field-0 parts.0 m.1 s.1 m.0 s.0
    (λ b e. rw c.in_ok-m.was at (bounds_cut word c.split_once.result c.split_once.ensures.cases b e)) c.new.result c.new.ensures.taken c.new.ensures.m c.new.ensures.s
