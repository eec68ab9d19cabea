use Rattle.std.proofs.Common.{◌≤◌, arith, subst}
use Rattle.mt_system.specs.Statements.{statement_of}
use Rattle.mt_import.specs.declared.headers.Header.{Header}
use Rattle.mt_service.proofs.GateLemmas.{read_within}
use Rattle.mt_service.proofs.gate.claim_within.Goals as goal

pub returns-then-count-gt-MOST_CHOICES : goal.returns-then-count-gt-MOST_CHOICES
returns-then-count-gt-MOST_CHOICES c =
    let b = c.args.bounds in
    let import = c.args.import.now in
    let claim = statement_of c.in_ok-claim.claim in
    let read = c.in_ok-claim.ensures in
    let over = c.if-count-gt-MOST_CHOICES.true in
    let count = c.choices_of-count.ensures in
    let inside = subst (λ (h : Header). (h.m ≤ b.m_max) × (h.s ≤ b.s_max)) c.header.ensures.value c.in_default.ensures in
    (claim, read_within b c.args._text.now import.header import.note import.digits c.requires inside claim read.header read.note read.digits, omega arith, count)
