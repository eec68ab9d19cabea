use Rattle.mt_strength.proofs.RowLemmas.{IsVerdict-answer}
use Rattle.mt_strength.proofs.verdicts.check.Goals as goal

pub returns : goal.returns
returns c = IsVerdict-answer c.args.system.now c.args.k c.m.result c.depth.result c.first_dependent.result c.m.ensures.value c.depth.ensures c.first_dependent.ensures
