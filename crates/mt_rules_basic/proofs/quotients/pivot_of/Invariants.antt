use Rattle.std.proofs.Common.{◌≡◌, ℕ, ◌<◌, slice_index}
use Rattle.mt_system.specs.Rows.{row_of}
use Rattle.mt_rules_basic.proofs.quotients.pivot_of.Given as goal

abbrev pub invariant-loop-column : goal.invariant-loop-column
invariant-loop-column l = (c : ℕ) → c < l.column → slice_index (row_of l.parent 0 0) c ≡ 0
