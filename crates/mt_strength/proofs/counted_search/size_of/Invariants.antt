use Rattle.std.proofs.Common.{◌≡◌, ◌*◌, ◌≤◌, sum, take}
use Rattle.mt_strength.proofs.counted_search.size_of.Given as goal

abbrev pub invariant-loop-size : goal.invariant-loop-size
invariant-loop-size l = record {
  total : l.total ≡ sum (take l.size-index l.sizes);
  small : l.total ≤ 255 * l.size-index;
}
