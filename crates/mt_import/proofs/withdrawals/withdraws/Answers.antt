use Rattle.mt_import.proofs.WithdrawalLemmas.{no_refused_line}
use Rattle.mt_import.proofs.withdrawals.withdraws.Goals as goal

pub returns-in-Err-clause-only : goal.returns-in-Err-clause-only
returns-in-Err-clause-only c = λ name is.
    let refused = c.in-Err.ensures in
    absurd (no_refused_line c.args.bytes.now name refused.number is refused.line)
