use Rattle.std.proofs.Common.{◌+◌, ◌-◌, ◌*◌}
use Rattle.mt_strength.proofs.counted_search.+searching.Given as goal

abbrev pub decreases-search : goal.decreases-search
decreases-search g l = 3 * (l.n + (l.system.now.coordinates - l.i)) + 2

abbrev pub decreases-search_behind : goal.decreases-search_behind
decreases-search_behind g l = 3 * (l.n + (l.system.now.coordinates - l.i)) + 1

abbrev pub decreases-search_with : goal.decreases-search_with
decreases-search_with g l = 3 * (l.n + (l.system.now.coordinates - l.i))
