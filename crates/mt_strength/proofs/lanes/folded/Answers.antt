use Rattle.mt_strength.proofs.LaneLemmas.{HasLanes-self, HasLanes-fold}
use Rattle.std.proofs.Common.{get_or}
use Rattle.mt_strength.proofs.lanes.folded.Goals as goal

pub returns : goal.returns
returns c = HasLanes-fold c.args.p c.args.v (λ k. get_or c.args.v k 0) (HasLanes-self c.args.v c.fits-v.0)
