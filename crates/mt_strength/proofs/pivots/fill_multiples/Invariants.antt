use Rattle.std.proofs.Common.{◌≡◌, ℕ, ◌+◌, ◌*◌, ◌<◌, ◌≤◌, length}
use Rattle.mt_linear.specs.Field.{prime_of, mul_of}
use Rattle.mt_strength.specs.Lanes.{row_at, lane_of, digit_at, HasLanes}
use Rattle.mt_strength.proofs.pivots.fill_multiples.Given as goal

abbrev pub invariant-loop-passed : goal.invariant-loop-passed
invariant-loop-passed l = record {
  size : length l.all ≡ length l.fn.all;
  low : l.low < prime_of l.order;
  at : l.passed ≡ l.high * prime_of l.order + l.low;
  each : (c : ℕ) → c ≤ l.passed → HasLanes (row_at l.all c) (λ k. lane_of l.order (mul_of l.order c (digit_at l.order l.v k)));
}
