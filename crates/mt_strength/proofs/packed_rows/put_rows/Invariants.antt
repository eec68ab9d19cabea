use Rattle.std.proofs.Common.{◌≡◌, ℕ, ◌+◌, ◌-◌, ◌*◌, ◌<◌, length, slice_index}
use Rattle.mt_strength.specs.Lanes.{lane_of, HasLanes}
use Rattle.mt_strength.specs.PackedRows.{IsPacked}
use Rattle.mt_system.specs.Rows.{part_rows}
use Rattle.mt_strength.specs.Lanes.{row_at}
use Rattle.mt_strength.proofs.packed_rows.put_rows.Given as goal

abbrev pub invariant-loop-j : goal.invariant-loop-j
invariant-loop-j l = record {
  size : length l.rows ≡ length l.fn.rows;
  packed : IsPacked l.system l.width l.each (l.i - 1) l.rows;
  more : (n : ℕ) → n < l.j → HasLanes (row_at l.rows ((l.i - 1) * l.each + n)) (λ k. lane_of l.system.order (slice_index (part_rows l.system l.width (l.i - 1) n) k));
}
