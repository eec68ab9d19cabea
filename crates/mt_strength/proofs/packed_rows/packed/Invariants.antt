use Rattle.std.proofs.Common.{◌≡◌, ◌*◌, length}
use Rattle.mt_strength.specs.PackedRows.{IsPacked}
use Rattle.mt_strength.proofs.packed_rows.packed.Given as goal

abbrev pub invariant-loop-i : goal.invariant-loop-i
invariant-loop-i l = record {
  size : length l.rows.items ≡ 32 * (l.system.coordinates * l.each);
  packed : IsPacked l.system l.width l.each l.i l.rows.items;
}
