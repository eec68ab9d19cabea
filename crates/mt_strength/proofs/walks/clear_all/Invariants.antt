use Rattle.std.proofs.Common.{◌≡◌, length}
use Rattle.mt_strength.specs.Walks.{IsLeft}
use Rattle.mt_strength.proofs.walks.clear_all.Given as goal

abbrev pub invariant-loop-i : goal.invariant-loop-i
invariant-loop-i l = record {
  size : length l.next ≡ length l.fn.next;
  left : IsLeft l.order l.rows l.first l.i l.each l.place l.next l.kept l.width;
}
