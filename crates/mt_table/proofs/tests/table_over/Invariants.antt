use Rattle.std.proofs.Common.{◌≡◌}
use Rattle.mt_table.proofs.tests.table_over.Given as goal

abbrev pub invariant-loop-letter : goal.invariant-loop-letter
invariant-loop-letter g l = l.table.bounds ≡ l.fn.bounds

abbrev pub invariant-loop-earlier : goal.invariant-loop-earlier
invariant-loop-earlier g l = l.table.bounds ≡ l.fn.bounds
