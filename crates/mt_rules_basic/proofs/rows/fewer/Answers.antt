use Rattle.std.proofs.Common.{ℕ, IfOk, arith}
use Rattle.std.proofs.lemmas.Result.{IfOk-weaker}
use Rattle.mt_system.specs.Rows.{Strength}
use Rattle.mt_rules_basic.specs.Rules.{IsFewer}
use Rattle.mt_rules_basic.proofs.PaddedLemmas.{fewer_from_padded}
use Rattle.mt_rules_basic.proofs.RowLemmas.{fewer_strength}
use Rattle.mt_rules_basic.proofs.rows.fewer.Goals as goal

rows : (c : goal.After-make) → IfOk c.make.result (λ a. IsFewer c.args.parent.now a)
rows c =
    IfOk-weaker _ _ _
    (λ a made. fewer_from_padded c.args.parent.now a _ _ _
    (omega (arith, c.m.ensures.value)) (omega (arith, c.s-coordinates.ensures)) (omega (arith, c.depth.ensures)) made)
    c.make.ensures

pub returns-clause-rows : goal.returns-clause-rows
returns-clause-rows c = rows c

pub returns-clause-strength : goal.returns-clause-strength
returns-clause-strength c =
    IfOk-weaker c.make.result (IsFewer c.args.parent.now) (λ a. (k : ℕ) → Strength c.args.parent.now k → Strength a k)
    (λ a made k. fewer_strength c.args.parent.now a k made) (rows c)
