use Rattle.mt_answer.proofs.ValueLemmas.{NoneTo}
use Rattle.mt_answer.proofs.least.least_m.Given as goal

abbrev pub invariant-loop-before : goal.invariant-loop-before
invariant-loop-before l = NoneTo l.table.bounds l.table.rules l.table.events l.order l.s l.k l.before
