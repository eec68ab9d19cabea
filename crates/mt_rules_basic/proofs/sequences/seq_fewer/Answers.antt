use Rattle.std.proofs.Common.{ℕ}
use Rattle.std.proofs.lemmas.Result.{IfOk-weaker}
use Rattle.mt_system.specs.Rows.{SequenceStrength}
use Rattle.mt_rules_basic.specs.Rules.{IsFewer}
use Rattle.mt_rules_basic.proofs.SequenceLemmas.{fewer_sequence}
use Rattle.mt_rules_basic.proofs.sequences.seq_fewer.Goals as goal

pub returns-clause-strength : goal.returns-clause-strength
returns-clause-strength c =
    IfOk-weaker c.fewer.result (IsFewer c.args.parent.now) (λ a. (u : ℕ) → SequenceStrength c.args.parent.now u → SequenceStrength a u)
    (λ a made u. fewer_sequence c.args.parent.now a u c.requires.square made) c.fewer.ensures.rows
