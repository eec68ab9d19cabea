use Rattle.std.proofs.Common.{rules}
use Rattle.mt_import.proofs.WithdrawalLemmas.{canonical_is_withdrawal}
use Rattle.mt_import.proofs.withdrawals.print_withdraw.Goals as goal

pub returns-clause-reads : goal.returns-clause-reads
returns-clause-reads c = canonical_is_withdrawal c.args.name c.push.new.self.items c.bytes.ensures.form (search rules)
