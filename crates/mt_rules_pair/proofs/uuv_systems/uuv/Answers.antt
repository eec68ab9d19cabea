use Rattle.std.proofs.Common.{ℕ, ◌+◌, ◌*◌, min, IfOk, refl, arith}
use Rattle.std.proofs.lemmas.Result.{IfOk-weaker}
use Rattle.mt_system.specs.Rows.{Strength}
use Rattle.mt_system.proofs.Makes.{with_digits}
use Rattle.mt_rules_pair.specs.Pairs.{IsUuv, deepened_strength}
use Rattle.mt_rules_pair.proofs.PairLemmas.{uuv_strength}
use Rattle.mt_rules_pair.proofs.uuv_systems.uuv.Goals as goal

rows : (c : goal.After-make) → IfOk c.make.result (IsUuv c.args.a.now c.args.b.now)
rows c =
    IfOk-weaker c.make.result _ (IsUuv c.args.a.now c.args.b.now)
    (λ r made. with_digits r _ _ _ _ _ _ _ _ _ (omega (arith, c.m.ensures.value, c.m-2.ensures.value))
    (omega (arith, c.s.ensures, c.s-2.ensures)) refl (λ i j e hi hj he. refl) made)
    c.make.ensures

pub returns-clause-rows : goal.returns-clause-rows
returns-clause-rows c = rows c

pub returns-clause-strength : goal.returns-clause-strength
returns-clause-strength c =
    IfOk-weaker c.make.result (IsUuv c.args.a.now c.args.b.now)
    (λ r. (j k : ℕ) → Strength c.args.a.now j → Strength c.args.b.now k
    → Strength r (min (2 * deepened_strength c.args.a.now.depth c.args.b.now.depth j + 1) k))
    (λ r made j k. uuv_strength c.args.a.now c.args.b.now r j k c.requires.order c.requires.partners made) (rows c)
