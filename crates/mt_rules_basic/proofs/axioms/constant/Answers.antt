use Rattle.std.proofs.lemmas.Result.{IfOk-weaker}
use Rattle.mt_rules_basic.proofs.AxiomLemmas.{constant_strength}
use Rattle.mt_rules_basic.proofs.axioms.constant.Goals as goal

pub returns-clause-strength : goal.returns-clause-strength
returns-clause-strength c = IfOk-weaker _ _ _ (λ a made. constant_strength a c.args.order c.args.m c.args.s c.args.depth c.requires.columns made) c.make.ensures
