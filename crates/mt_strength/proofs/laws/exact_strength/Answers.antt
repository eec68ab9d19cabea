use Rattle.mt_strength.proofs.ExactLemmas.{strength_exact}
use Rattle.mt_strength.proofs.laws.exact_strength.Goals as goal

pub returns : goal.returns
returns c = strength_exact
