use Rattle.std.proofs.Common.{ℕ, ◌≤◌, List, length}
use Rattle.mt_import.specs.Reading.{TakesRows}
use Rattle.mt_import.proofs.import_text.pass_rows.Given as goal

abbrev pub invariant-loop-passed : goal.invariant-loop-passed
invariant-loop-passed l = record {
  shorter : length l.rest ≤ length l.text;
  taken : (rows : List (List ℕ)) × TakesRows l.header l.passed l.text l.rest rows;
}
