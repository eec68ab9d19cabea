use Rattle.std.proofs.Common.{ℕ, IfOk, arith}
use Rattle.std.proofs.lemmas.Result.{IfOk-weaker}
use Rattle.mt_system.specs.Rows.{Strength}
use Rattle.mt_rules_basic.specs.Rules.{IsShallower}
use Rattle.mt_rules_basic.proofs.PaddedLemmas.{shallower_from_padded}
use Rattle.mt_rules_basic.proofs.RowLemmas.{shallower_strength}
use Rattle.mt_rules_basic.proofs.rows.shallower.Goals as goal

rows : (c : goal.After-make) → IfOk c.make.result (λ a. IsShallower c.args.parent.now a)
rows c =
    IfOk-weaker _ _ _
    (λ a made. shallower_from_padded c.args.parent.now a _ _ _
    (omega (arith, c.m.ensures.value)) (omega (arith, c.s.ensures)) (omega (arith, c.depth-depth.ensures)) made)
    c.make.ensures

pub returns-clause-rows : goal.returns-clause-rows
returns-clause-rows c = rows c

pub returns-clause-strength : goal.returns-clause-strength
returns-clause-strength c =
    IfOk-weaker c.make.result (IsShallower c.args.parent.now) (λ a. (k : ℕ) → Strength c.args.parent.now k → Strength a k)
    (λ a made k. shallower_strength c.args.parent.now a k made) (rows c)
