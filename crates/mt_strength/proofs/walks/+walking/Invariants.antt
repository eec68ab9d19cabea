use Rattle.std.proofs.Common.{◌+◌, ◌-◌, ◌*◌, ◌≤◌}
use Rattle.mt_system.specs.Rows.{rows_by}
use Rattle.mt_strength.specs.Searches.{AllIndependent}
use Rattle.mt_strength.specs.Walks.{count_of, digits_in}
use Rattle.mt_strength.proofs.SuffixLemmas.{suffix}
use Rattle.mt_strength.proofs.walks.+walking.Given as goal

abbrev pub decreases-walk : goal.decreases-walk
decreases-walk l = 2 * l.n + 1

abbrev pub decreases-walk_first : goal.decreases-walk_first
decreases-walk_first l = 2 * l.n

abbrev pub invariant-walk-loop-i : goal.invariant-walk-loop-i
invariant-walk-loop-i l = record {
  within : l.i ≤ l.others + 1;
  behind : l.i ≤ l.others → AllIndependent l.order (rows_by (suffix (digits_in l.order l.rows l.first l.each) l.i)) (count_of l.first l.each l.i) (l.others - l.i) l.each l.n;
}

abbrev pub decreases-walk-loop-i : goal.decreases-walk-loop-i
decreases-walk-loop-i l = l.i
