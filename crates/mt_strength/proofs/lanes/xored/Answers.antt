use Rattle.std.proofs.Common.{get_or, bit_xor}
use Rattle.mt_strength.proofs.LaneLemmas.{HasLanes-self, HasLanes-zip2}
use Rattle.mt_strength.proofs.lanes.xored.Goals as goal

pub returns : goal.returns
returns c = HasLanes-zip2 bit_xor c.args.x c.args.y (λ k. get_or c.args.x k 0) (λ k. get_or c.args.y k 0) (HasLanes-self c.args.x c.fits-x.0) (HasLanes-self c.args.y c.fits-y.0)
