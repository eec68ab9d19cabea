use Rattle.std.proofs.Common.{get_or, bit_and, replicate}
use Rattle.mt_strength.proofs.LaneLemmas.{HasLanes-self, HasLanes-zip2, HasLanes-splat}
use Rattle.mt_strength.proofs.lanes.low_three.Goals as goal

pub returns : goal.returns
returns c = HasLanes-zip2 bit_and c.args.v (replicate 32 7) (λ k. get_or c.args.v k 0) (λ k. 7) (HasLanes-self c.args.v c.fits-v.0) (HasLanes-splat 7)
