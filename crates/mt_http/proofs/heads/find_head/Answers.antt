use Rattle.std.proofs.Common.{arith}
use Rattle.mt_http.proofs.HeadLemmas.{lacks_in_prefix, none_in_prefix, none_in_nothing}
use Rattle.mt_http.proofs.heads.find_head.Goals as goal

pub returns-then-start-end-clause-none : goal.returns-then-start-end-clause-none
returns-then-start-end-clause-none c = lacks_in_prefix c.args.bytes.now 0 (omega arith) (none_in_nothing c.args.bytes.now)

pub returns-then-start-end-clause-seen : goal.returns-then-start-end-clause-seen
returns-then-start-end-clause-seen c = none_in_prefix c.args.bytes.now 0 (omega arith) (none_in_nothing c.args.bytes.now)
