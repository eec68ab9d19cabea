use Rattle.mt_strength.proofs.LaneLemmas.{zeros_by_mask, first_by_mask}
use Rattle.mt_strength.proofs.lanes.first_nonzero.Goals as goal

pub returns-then-mask-eq0 : goal.returns-then-mask-eq0
returns-then-mask-eq0 c = zeros_by_mask c.args.v c.fits-v.0 c.if-mask-eq0.true

pub returns-else-mask-eq0 : goal.returns-else-mask-eq0
returns-else-mask-eq0 c = first_by_mask c.args.v c.fits-v.0 c.if-mask-eq0.false
