use Rattle.std.proofs.Common.{◌≡◌, ◌+◌, ◌-◌, ◌*◌, ◌∙◌, arith, subst}
use Rattle.mt_strength.specs.Lanes.{row_at, IsLanes}
use Rattle.mt_strength.proofs.ClearLemmas.{first_lane, first_digit, clearing_is, pivot_by, one_left, all_left, gone_at}
use Rattle.mt_strength.proofs.walks.last_gone.Goals as goal
use Rattle.mt_strength.proofs.walks.last_gone.Goals.{else-first-gt1-via-then-first-gt1+else-not-is_left-2, else-first-gt1-via-else-first-gt1}

pub factor_of-factor-requires-clause-lane : goal.factor_of-factor-requires-clause-lane
factor_of-factor-requires-clause-lane c = first_lane c.args.order c.args.rows.now c.args.place c.requires.place (c.requires.laid.of_first 0 c.requires.some)

pub factor_of-factor-requires-clause-some : goal.factor_of-factor-requires-clause-some
factor_of-factor-requires-clause-some c = λ e. c.requires.some_digit (first_digit c.args.order c.args.rows.now c.args.place c.requires.place ∙ e)

pub fill_multiples-requires-clause-lanes : goal.fill_multiples-requires-clause-lanes
fill_multiples-requires-clause-lanes c = rw c.read_row-v.ensures (c.requires.laid.of_first 0 c.requires.some)

pub is_left-requires-clause-pivot : goal.is_left-requires-clause-pivot
is_left-requires-clause-pivot c =
    pivot_by c.args.order c.args.rows.now c.read_row-v.result c.args.place c.factor_of-factor.result c.fill_multiples.new.all c.read_row-v.ensures (c.requires.laid.of_first 0 c.requires.some) c.requires.place
    c.requires.some_digit (clearing_is c.args.order c.args.rows.now c.args.place c.factor_of-factor.result c.requires.place c.factor_of-factor.ensures) c.fill_multiples.ensures.multiples

pub is_left-requires-clause-lanes : goal.is_left-requires-clause-lanes
is_left-requires-clause-lanes c =
    let some = c.loop-i-test.true in
    let within = c.loop-i.invariant.within in
    subst (λ n. IsLanes c.args.order (row_at c.args.rows.now n)) (let e : c.args.first + (c.loop-i.i - 1) * c.args.each + 0 ≡ c.args.first + (c.loop-i.i - 1) * c.args.each = omega arith in e)
    (c.requires.laid.of_others (c.loop-i.i - 1) 0 (omega arith) (c.loop-i.invariant.some some))

pub is_left-requires-then-first-gt1-clause-pivot : goal.is_left-requires-then-first-gt1-clause-pivot
is_left-requires-then-first-gt1-clause-pivot c =
    pivot_by c.args.order c.args.rows.now c.read_row-v.result c.args.place c.factor_of-factor.result c.fill_multiples.new.all c.read_row-v.ensures (c.requires.laid.of_first 0 c.requires.some) c.requires.place
    c.requires.some_digit (clearing_is c.args.order c.args.rows.now c.args.place c.factor_of-factor.result c.requires.place c.factor_of-factor.ensures) c.fill_multiples.ensures.multiples

pub is_left-requires-then-first-gt1-clause-lanes : goal.is_left-requires-then-first-gt1-clause-lanes
is_left-requires-then-first-gt1-clause-lanes c = c.requires.laid.of_first 1 c.if-first-gt1.true

pub loop-i-preserved : goal.loop-i-preserved
loop-i-preserved c =
    let within = c.loop-i.invariant.within in
    record {
      within = omega arith;
      some = λ l. c.loop-i.invariant.some c.loop-i-test.true;
      left = one_left c.args.order c.args.rows.now c.args.first c.args.others c.args.each c.args.place c.loop-i.i c.loop-i-test.true c.if-not-is_left.ensures.left c.loop-i.invariant.left;
    }

pub returns-then-not-is_left-clause-gone : goal.returns-then-not-is_left-clause-gone
returns-then-not-is_left-clause-gone c =
    gone_at c.args.order c.args.rows.now c.args.first c.args.others c.args.each c.args.place c.loop-i.i c.loop-i-test.true c.loop-i.invariant.within
    (c.loop-i.invariant.some c.loop-i-test.true) c.if-not-is_left.ensures.none c.loop-i.invariant.left

pub returns-clause-gone : goal.returns-clause-gone
returns-clause-gone c =
    let test = c.loop-i-test.false in
    all_left c.args.order c.args.rows.now c.args.first c.args.others c.args.each c.args.place c.loop-i.i (omega arith)
    (λ l. elim c.else-first-gt1.branch [
      | else-first-gt1-via-then-first-gt1+else-not-is_left-2 w ↦ w.if-not-is_left-2.ensures.left
      | else-first-gt1-via-else-first-gt1 w ↦ let f = w.if-first-gt1.false in absurd (omega arith)
    ])
    c.loop-i.invariant.left
