use Rattle.std.proofs.lemmas.Result.{IfOk-weaker}
use Rattle.mt_rules_basic.proofs.AxiomLemmas.{identity_strength}
use Rattle.mt_rules_basic.proofs.axioms.identity.Goals as goal

pub returns-clause-strength : goal.returns-clause-strength
returns-clause-strength c = IfOk-weaker _ _ _ (λ a made. identity_strength a c.args.order c.args.m made) c.make.ensures
