use Rattle.std.proofs.Common.{◌≡◌, take, drop, flat_map}
use Rattle.mt_import.specs.Lines.{lines_of}
use Rattle.mt_import.specs.Texts.{digits_of}
use Rattle.mt_import.proofs.import_text.read_rows.Given as goal

abbrev pub invariant-loop-passed : goal.invariant-loop-passed
invariant-loop-passed l = record {
  left : lines_of l.rest ≡ drop l.passed (lines_of l.text);
  digits : l.digits.items ≡ flat_map digits_of (take l.passed (lines_of l.text));
}
