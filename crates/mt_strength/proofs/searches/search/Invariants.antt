use Rattle.std.proofs.Common.{◌≤◌, sum}
use Rattle.mt_system.specs.Rows.{rows_by}
use Rattle.mt_strength.specs.Searches.{IsFound}
use Rattle.mt_strength.specs.Walks.{digits_in}
use Rattle.mt_strength.proofs.searches.search.Given as goal

abbrev pub invariant-fewer : goal.invariant-fewer
invariant-fewer l = record {
  found : IsFound l.order (rows_by (digits_in l.order l.rows l.each l.each)) l.each l.others l.each (sum l.sizes) l.sizes;
  size : sum l.sizes ≤ l.k;
}

abbrev pub decreases-fewer : goal.decreases-fewer
decreases-fewer l = sum l.sizes
