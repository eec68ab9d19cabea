use Rattle.std.proofs.lemmas.Result.{IfOk-weaker}
use Rattle.mt_rules_basic.proofs.AxiomLemmas.{least_strength}
use Rattle.mt_rules_basic.proofs.SequenceLemmas.{sequence_least}
use Rattle.mt_rules_basic.proofs.axioms.zero.Goals as goal

pub returns-clause-strength : goal.returns-clause-strength
returns-clause-strength c = IfOk-weaker _ _ _ (λ a made. least_strength a) c.make.ensures

pub returns-clause-sequence : goal.returns-clause-sequence
returns-clause-sequence c = IfOk-weaker _ _ _ (λ a made. sequence_least a) c.make.ensures
