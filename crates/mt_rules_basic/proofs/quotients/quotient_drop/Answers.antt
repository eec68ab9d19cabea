use Rattle.std.proofs.Common.{ℕ, ◌-◌, IfOk}
use Rattle.std.proofs.lemmas.Result.{IfOk-weaker}
use Rattle.mt_system.specs.Rows.{Strength}
use Rattle.mt_rules_basic.specs.Rules.{IsQuotientDrop}
use Rattle.mt_rules_basic.proofs.QuotientLemmas.{drop_strength}
use Rattle.mt_rules_basic.proofs.quotients.quotient_drop.Goals as goal

rows : (c : goal.After-make) → IfOk c.make.result (IsQuotientDrop c.args.parent.now)
rows c =
    IfOk-weaker c.make.result _ (IsQuotientDrop c.args.parent.now)
    (λ a made. (c.pivot_of-pivot.result, c.pivot_of-pivot.ensures.pivot, made)) c.make.ensures

pub returns-clause-rows : goal.returns-clause-rows
returns-clause-rows c = rows c

pub returns-clause-strength : goal.returns-clause-strength
returns-clause-strength c =
    IfOk-weaker c.make.result (IsQuotientDrop c.args.parent.now) (λ a. (k : ℕ) → Strength c.args.parent.now k → Strength a (k - 1))
    (λ a made k. drop_strength c.args.parent.now a k c.pivot_of-pivot.ensures.elements made) (rows c)
