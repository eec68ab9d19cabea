use Rattle.std.proofs.Common.{◌≡◌, length, sym, ap, ◌∙◌}
use Rattle.std.proofs.lemmas.List.{length-map}
use Rattle.mt_linear.specs.Linear.{Independent}
use Rattle.mt_linear.specs.Vectors.{Digits}
use Rattle.mt_system.specs.Rows.{rows_by, part_rows}
use Rattle.mt_strength.specs.Dependence.{lists_of}
use Rattle.mt_strength.specs.Searches.{IsFirstBySize}
use Rattle.mt_strength.proofs.RowLemmas.{all_but_last_rows, independent_rows, dependent_rows}
use Rattle.mt_strength.proofs.LeastLemmas.{Passed-least, steps_whole}
use Rattle.mt_strength.proofs.counted_search.counted_first_dependent.Goals as goal

pub dependence-requires-clause-prefix : goal.dependence-requires-clause-prefix
dependence-requires-clause-prefix g c =
    let M = part_rows c.args.system.now c.args.width in
    let least = rw c.in-Some.is at c.in_ok-choice.ensures.first in
    all_but_last_rows c.args.system.now.order c.args.system.now.coordinates c.args.depth c.args.k M c.in-Some.choice
    c.order-2.result c.in_ok-rows.rows.items c.deref.result.now c.order-2.ensures.value c.deref.ensures.value c.in_ok-rows.ensures.rows
    (Passed-least c.args.system.now.order c.args.system.now.coordinates c.args.depth c.args.k M c.in-Some.choice least)

pub unreachable-requires : goal.unreachable-requires
unreachable-requires g c =
    let M = part_rows c.args.system.now c.args.width in
    let least : IsFirstBySize c.args.system.now.order c.args.system.now.coordinates c.args.depth c.args.k (rows_by M) c.in-Some.choice = rw c.in-Some.is at c.in_ok-choice.ensures.first in
    let independent : Independent c.order-2.result (lists_of c.deref.result.now) = rw c.in_default-2.is at c.in_ok-coefficients.ensures.independent in
    least.dependent (independent_rows c.args.system.now.order M c.in-Some.choice c.order-2.result c.in_ok-rows.rows.items c.deref.result.now
    c.order-2.ensures.value c.deref.ensures.value c.in_ok-rows.ensures.rows independent)

pub returns-clause-verdict : goal.returns-clause-verdict
returns-clause-verdict g c =
    let M = part_rows c.args.system.now c.args.width in
    let least = rw c.in-Some.is at c.in_ok-choice.ensures.first in
    let relation = rw c.in-Some-2.is at c.in_ok-coefficients.ensures.independent in
    dependent_rows c.args.system.now.order c.args.system.now.coordinates c.args.depth c.args.k M c.in-Some.choice
    c.order-2.result c.in_ok-rows.rows.items c.deref.result.now c.in-Some-2.coefficients c.order-2.ensures.value c.deref.ensures.value c.in_ok-rows.ensures.rows
    (Passed-least c.args.system.now.order c.args.system.now.coordinates c.args.depth c.args.k M c.in-Some.choice least) relation

pub returns-clause-steps : goal.returns-clause-steps
returns-clause-steps g c =
    let M = part_rows c.args.system.now c.args.width in
    let least : IsFirstBySize c.args.system.now.order c.args.system.now.coordinates c.args.depth c.args.k (rows_by M) c.in-Some.choice = rw c.in-Some.is at c.in_ok-choice.ensures.first in
    let rows : length c.deref.result.now ≡ length (rows_by M c.in-Some.choice) =
    ap length c.deref.ensures.value ∙ sym (length-map c.in_ok-rows.rows.items (λ (v : Digits). v.digits)) ∙ ap length c.in_ok-rows.ensures.rows in
    let first = rw c.in-Some.is at c.in_ok-choice.ensures.steps in
    steps_whole c.args.system.now.coordinates c.args.depth c.args.k M c.in-Some.choice c.args.steps.now c.first_below.new.steps c.dependence.new.steps (length c.deref.result.now)
    least.size rows first c.in_ok-coefficients.ensures.steps
