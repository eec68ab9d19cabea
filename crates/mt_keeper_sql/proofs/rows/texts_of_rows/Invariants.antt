use Rattle.std.proofs.Common.{◌≡◌, ◌+◌, ◌<◌, ◌^◌, length, take}
use Rattle.mt_keeper.specs.Keeping.{texts_of}
use Rattle.mt_keeper_sql.specs.Rows.{AreRecords}
use Rattle.mt_keeper_sql.proofs.rows.texts_of_rows.Given as goal

abbrev pub invariant-loop-row : goal.invariant-loop-row
invariant-loop-row l = record {
  next : l.next ≡ length l.texts.items + 1;
  few : length l.texts.items + 1 < 2 ^ 32;
  records : AreRecords 1 (take l.row-index l.rows) (texts_of l.texts.items);
}
