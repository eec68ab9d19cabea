use Rattle.std.proofs.Common.{ℕ, ◌≤◌, IfOk, refl, arith}
use Rattle.std.proofs.lemmas.Result.{IfOk-weaker}
use Rattle.mt_system.specs.Rows.{Strength, SequenceStrength}
use Rattle.mt_system.proofs.Makes.{with_digits}
use Rattle.mt_rules_basic.specs.Rules.{IsNet}
use Rattle.mt_rules_basic.proofs.SequenceLemmas.{net_strength}
use Rattle.mt_rules_basic.proofs.sequences.seq_to_net.Goals as goal

rows : (c : goal.After-make) → IfOk c.make.result (IsNet c.args.parent.now)
rows c =
    IfOk-weaker c.make.result _ (IsNet c.args.parent.now)
    (λ a made. with_digits a _ _ _ _ _ _ _ _ _ refl (omega (arith, c.s-coordinates.ensures)) refl (λ i j e hi hj he. refl) made)
    c.make.ensures

pub returns-clause-rows : goal.returns-clause-rows
returns-clause-rows c = rows c

pub returns-clause-strength : goal.returns-clause-strength
returns-clause-strength c =
    IfOk-weaker c.make.result (IsNet c.args.parent.now) (λ a. (u : ℕ) → u ≤ c.args.parent.now.columns → SequenceStrength c.args.parent.now u → Strength a u)
    (λ a made u h. net_strength c.args.parent.now a u h made) (rows c)
