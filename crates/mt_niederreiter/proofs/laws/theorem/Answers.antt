use Rattle.mt_niederreiter.proofs.Bridge.{niederreiter}
use Rattle.mt_niederreiter.proofs.laws.theorem.Goals as goal

pub returns : goal.returns
returns c = niederreiter
