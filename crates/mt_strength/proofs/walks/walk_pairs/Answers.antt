use Rattle.std.proofs.Common.{◌+◌, ℕ, suc, List, get_or, length, ap, arith}
use Rattle.std.proofs.Math.ListN.{set}
use Rattle.mt_system.specs.Rows.{rows_by}
use Rattle.mt_strength.specs.Walks.{IsLastGone, digits_in}
use Rattle.mt_strength.proofs.PairLemmas.{unit_choice, unit_written, within_next, all_next, found_next}
use Rattle.mt_strength.proofs.WalkLemmas.{all_raised, found_raised}
use Rattle.mt_strength.proofs.walks.walk_pairs.Goals as goal

pub returns-in_default-clause-independent : goal.returns-in_default-clause-independent
returns-in_default-clause-independent c =
    let R = rows_by (digits_in c.args.order c.args.rows.now c.args.first c.args.each) in
    all_raised c.args.order R c.args.first c.args.others c.args.each 2 c.requires.some (omega arith) c.requires.others
    (all_next c.args.order c.args.rows.now c.args.first c.args.others c.args.each c.args.place c.requires.laid c.requires.some c.requires.some_digit c.in_default.ensures.gone)

pub returns-clause-found : goal.returns-clause-found
returns-clause-found c =
    let R = rows_by (digits_in c.args.order c.args.rows.now c.args.first c.args.each) in
    let i = c.in-Some.i in
    let gone : IsLastGone c.args.order c.args.rows.now c.args.first c.args.others c.args.each c.args.place i = c.in-Some.ensures.gone in
    let written = unit_written c.args.others i (length c.args.sizes.now) c.fill.new.self (c.fill.ensures.after (λ y h. h)) c.requires.sizes
    (within_next c.args.order c.args.rows.now c.args.first c.args.others c.args.each c.args.place c.requires.laid c.requires.some c.requires.some_digit i gone) in
    found_raised c.args.order R c.args.first c.args.others c.args.each 2 (unit_choice (suc c.args.others) i) _ c.requires.some (omega arith) c.requires.others
    (found_next c.args.order c.args.rows.now c.args.first c.args.others c.args.each c.args.place c.requires.laid c.requires.some c.requires.some_digit i gone)
    (ap (λ (s : List ℕ). set s 0 (get_or s 0 0 + 1)) written)
