use Rattle.mt_answer.proofs.SheetLemmas.{IsSheet, export_header, IsCellRow}
use Rattle.mt_answer.proofs.exports.export_lines.Given as goal

abbrev pub invariant-loop-number : goal.invariant-loop-number
invariant-loop-number l = IsSheet export_header (IsCellRow l.table) l.number l.sheet
