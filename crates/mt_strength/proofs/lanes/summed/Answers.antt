use Rattle.std.proofs.Common.{◌+◌, ◌%◌, get_or, ap}
use Rattle.mt_strength.specs.Lanes.{fold}
use Rattle.mt_strength.proofs.LaneLemmas.{HasLanes-self, HasLanes-zip2, HasLanes-as}
use Rattle.mt_strength.proofs.lanes.summed.Goals as goal

pub returns : goal.returns
returns c =
    let sum = HasLanes-zip2 (λ a b. (a + b) % 256) c.args.x c.args.y (λ k. get_or c.args.x k 0) (λ k. get_or c.args.y k 0) (HasLanes-self c.args.x c.fits-x.0) (HasLanes-self c.args.y c.fits-y.0) in
    HasLanes-as c.folded.result _ (λ k. fold c.args.p ((get_or c.args.x k 0 + get_or c.args.y k 0) % 256)) c.folded.ensures (λ k l. ap (fold c.args.p) (sum.each k l))
