use Rattle.std.proofs.Common.{refl, arith}
use Rattle.std.proofs.lemmas.Result.{IfOk-weaker}
use Rattle.mt_system.specs.Rows.{Strength}
use Rattle.mt_system.proofs.Makes.{with_digits}
use Rattle.mt_rules_basic.specs.Axioms.{IsParity}
use Rattle.mt_rules_basic.proofs.AxiomLemmas.{parity_strength}
use Rattle.mt_rules_basic.proofs.axioms.parity.Goals as goal

pub returns-clause-strength : goal.returns-clause-strength
returns-clause-strength c =
    IfOk-weaker c.make.result (IsParity c.args.order c.args.m) (λ a. Strength a c.args.m)
    (λ a made. parity_strength a c.args.order c.args.m made)
    (IfOk-weaker c.make.result _ (IsParity c.args.order c.args.m)
    (λ a made. with_digits a _ _ _ _ _ _ _ _ _ refl (omega arith) refl (λ i j e hi hj he. refl) made) c.make.ensures)
