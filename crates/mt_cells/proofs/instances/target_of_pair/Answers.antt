use Rattle.std.proofs.Common.{arith}
use Rattle.mt_cells.proofs.SpotLemmas.{pair_sums}
use Rattle.mt_cells.proofs.instances.target_of_pair.Goals as goal

pub overflow_add-s : goal.overflow_add-s
overflow_add-s c = let sums = pair_sums c.args.bounds c.args.rule c.args.p c.args.q c.requires.has in omega (arith, rw (c.in-Ooa-Ooa.is-0, c.in-Ooa-Ooa.is-1) at sums.1, c.args.bounds.s_high)
