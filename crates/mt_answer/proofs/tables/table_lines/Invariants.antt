use Rattle.mt_answer.proofs.SheetLemmas.{IsSheet, table_header, IsRowOf}
use Rattle.mt_answer.proofs.tables.table_lines.Given as goal

abbrev pub invariant-loop-place : goal.invariant-loop-place
invariant-loop-place l = IsSheet table_header (IsRowOf l.table l.order l.m) l.place l.sheet
