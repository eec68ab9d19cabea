use Rattle.mt_answer.proofs.SheetLemmas.{table_header, IsRowOf, one_more}
use Rattle.mt_answer.proofs.tables.table_lines.Goals as goal

pub loop-place-preserved : goal.loop-place-preserved
loop-place-preserved c =
    let added = c.in_ok-push_values.ensures in
    one_more table_header (IsRowOf c.args.table.now c.args.order c.args.m) c.loop-place.place c.loop-place.sheet c.push_values.new.sheet added.0 c.loop-place.invariant added.1 added.2
