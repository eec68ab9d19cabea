use Rattle.std.proofs.Common.{◌≡◌, ℕ, ◌<◌, ◌≤◌, length, slice_index}
use Rattle.mt_strength.specs.Lanes.{lane_of}
use Rattle.mt_strength.proofs.packed_rows.lanes_of.Given as goal

abbrev pub invariant-loop-k : goal.invariant-loop-k
invariant-loop-k l = record {
  size : length l.lanes ≡ 32;
  done : (n : ℕ) → n < l.k → slice_index l.lanes n ≡ lane_of l.order (slice_index l.digits n);
  rest : (n : ℕ) → l.k ≤ n → slice_index l.lanes n ≡ 0;
}
