use Rattle.std.proofs.Common.{◌≡◌, ℕ, ◌+◌, ◌<◌, length}
use Rattle.mt_strength.specs.Pivots.{IsCleared}
use Rattle.mt_strength.specs.Lanes.{row_at}
use Rattle.mt_strength.proofs.walks.clear_run.Given as goal

abbrev pub invariant-loop-j : goal.invariant-loop-j
invariant-loop-j l = record {
  size : length l.next ≡ length l.initial.next;
  done : (k : ℕ) → k < l.j → IsCleared l.order l.v l.place l.factor (row_at l.rows (l.from + k)) (row_at l.next (l.at + k));
  before : (k : ℕ) → k < l.at → row_at l.next k ≡ row_at l.initial.next k;
}
