use Rattle.std.proofs.Common.{ℕ, Option, Some, None, MatchOption, IsSome, List, rules}
use Rattle.mt_linear.specs.Linear.{Independent}
use Rattle.mt_system.specs.Rows.{Matrices, part_rows}
use Rattle.mt_strength.specs.Dependence.{lists_of}
use Rattle.mt_strength.specs.FirstChoices.{IsFirstChoice}
use Rattle.mt_strength.proofs.RowLemmas.{Passed, all_but_last_rows, independent_rows, dependent_rows}
use Rattle.mt_strength.proofs.verdicts.first_dependent.Goals as goal

passed : (a : Matrices) (width depth k : ℕ) (c : List ℕ) → IsFirstChoice a width depth k c → Passed a.order a.coordinates depth k (part_rows a width) c
passed a width depth k c first = record { choice = first.choice; size = first.size; earlier = first.earlier }

IsSome-by : {A : Type 0} (r : Option A) (P : Type 0) (Q : A → Type 0) → MatchOption r P Q → (P → ⊥) → IsSome r
IsSome-by None P Q h none = absurd (none h)
IsSome-by (Some x) P Q h none = search rules

pub uncounted_dependence-requires-clause-prefix : goal.uncounted_dependence-requires-clause-prefix
uncounted_dependence-requires-clause-prefix c =
    let first : IsFirstChoice c.args.system.now c.args.width c.args.depth c.args.k c.in-Some.choice = rw c.in-Some.is at c.in_ok-choice.ensures in
    all_but_last_rows c.args.system.now.order c.args.system.now.coordinates c.args.depth c.args.k (part_rows c.args.system.now c.args.width) c.in-Some.choice
    c.order.result c.in_ok-rows.rows.items c.deref.result.now c.order.ensures.value c.deref.ensures.value c.in_ok-rows.ensures.rows (passed c.args.system.now c.args.width c.args.depth c.args.k c.in-Some.choice first)

pub unwrap-coefficients-requires : goal.unwrap-coefficients-requires
unwrap-coefficients-requires c =
    let first : IsFirstChoice c.args.system.now c.args.width c.args.depth c.args.k c.in-Some.choice = rw c.in-Some.is at c.in_ok-choice.ensures in
    IsSome-by c.in_ok-uncounted_dependence.field-0 _ _ c.in_ok-uncounted_dependence.ensures
    (λ (independent : Independent c.order.result (lists_of c.deref.result.now)).
    first.dependent (independent_rows c.args.system.now.order (part_rows c.args.system.now c.args.width) c.in-Some.choice c.order.result c.in_ok-rows.rows.items c.deref.result.now
    c.order.ensures.value c.deref.ensures.value c.in_ok-rows.ensures.rows independent))

pub returns : goal.returns
returns c =
    let first : IsFirstChoice c.args.system.now c.args.width c.args.depth c.args.k c.in-Some.choice = rw c.in-Some.is at c.in_ok-choice.ensures in
    dependent_rows c.args.system.now.order c.args.system.now.coordinates c.args.depth c.args.k (part_rows c.args.system.now c.args.width) c.in-Some.choice
    c.order.result c.in_ok-rows.rows.items c.deref.result.now c.unwrap-coefficients.result
    c.order.ensures.value c.deref.ensures.value c.in_ok-rows.ensures.rows (passed c.args.system.now c.args.width c.args.depth c.args.k c.in-Some.choice first)
    (rw c.unwrap-coefficients.ensures at c.in_ok-uncounted_dependence.ensures)
