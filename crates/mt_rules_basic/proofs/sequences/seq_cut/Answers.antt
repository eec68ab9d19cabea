use Rattle.std.proofs.Common.{ℕ, ◌-◌, IfOk, arith}
use Rattle.std.proofs.lemmas.Result.{IfOk-weaker}
use Rattle.mt_system.specs.Rows.{SequenceStrength}
use Rattle.mt_rules_basic.specs.Rules.{IsCut}
use Rattle.mt_rules_basic.proofs.PaddedLemmas.{cut_from_padded}
use Rattle.mt_rules_basic.proofs.SequenceLemmas.{cut_sequence}
use Rattle.mt_rules_basic.proofs.sequences.seq_cut.Goals as goal

rows : (c : goal.After-make) → IfOk c.make.result (IsCut c.args.parent.now)
rows c =
    IfOk-weaker c.make.result _ (IsCut c.args.parent.now)
    (λ a made. cut_from_padded c.args.parent.now a _ _ _ (omega (arith, c.m-columns.ensures.value)) (omega (arith, c.s.ensures))
    (omega (arith, c.m-columns.ensures.value, c.requires.square)) made)
    c.make.ensures

pub returns-clause-rows : goal.returns-clause-rows
returns-clause-rows c = rows c

pub returns-clause-strength : goal.returns-clause-strength
returns-clause-strength c =
    IfOk-weaker c.make.result (IsCut c.args.parent.now) (λ a. (u : ℕ) → SequenceStrength c.args.parent.now u → SequenceStrength a (u - 1))
    (λ a made u. cut_sequence c.args.parent.now a u c.requires.square made) (rows c)
