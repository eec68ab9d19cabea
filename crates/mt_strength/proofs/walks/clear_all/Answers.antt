use Rattle.std.proofs.Common.{◌≡◌, ◌+◌, refl, ap, ◌∙◌, arith}
use Rattle.mt_strength.specs.Lanes.{row_at}
use Rattle.mt_strength.proofs.ClearLemmas.{first_lane, first_digit, clearing_is, pivot_by, cleared_as, more_left}
use Rattle.mt_strength.proofs.walks.clear_all.Goals as goal

pub factor_of-factor-requires-clause-lane : goal.factor_of-factor-requires-clause-lane
factor_of-factor-requires-clause-lane c =
    let k = c.requires.kept in
    first_lane c.args.order c.args.rows.now c.args.place c.requires.place (c.requires.laid.of_first 0 (omega arith))

pub factor_of-factor-requires-clause-some : goal.factor_of-factor-requires-clause-some
factor_of-factor-requires-clause-some c = λ e. c.requires.some_digit (first_digit c.args.order c.args.rows.now c.args.place c.requires.place ∙ e)

pub fill_multiples-requires-clause-lanes : goal.fill_multiples-requires-clause-lanes
fill_multiples-requires-clause-lanes c = let k = c.requires.kept in rw c.read_row-v.ensures (c.requires.laid.of_first 0 (omega arith))

pub clear_run-requires-clause-pivot : goal.clear_run-requires-clause-pivot
clear_run-requires-clause-pivot c =
    let k = c.requires.kept in
    pivot_by c.args.order c.args.rows.now c.read_row-v.result c.args.place c.factor_of-factor.result c.fill_multiples.new.all c.read_row-v.ensures (c.requires.laid.of_first 0 (omega arith)) c.requires.place
    c.requires.some_digit (clearing_is c.args.order c.args.rows.now c.args.place c.factor_of-factor.result c.requires.place c.factor_of-factor.ensures) c.fill_multiples.ensures.multiples

pub loop-i-init : goal.loop-i-init
loop-i-init c = record {
  size = c.clear_run.ensures.size;
  left = record {
    of_first = λ j l. cleared_as c.args.order c.args.rows.now c.read_row-v.result c.args.place c.factor_of-factor.result (row_at c.args.rows.now (1 + j)) (row_at c.clear_run.new.next (0 + j)) (row_at c.clear_run.new.next j) c.read_row-v.ensures
        (clearing_is c.args.order c.args.rows.now c.args.place c.factor_of-factor.result c.requires.place c.factor_of-factor.ensures) (ap (row_at c.clear_run.new.next) (let e : 0 + j ≡ j = omega arith in e)) (c.clear_run.ensures.done j l);
    of_others = λ i j l m. absurd (omega arith);
  };
}

pub clear_run-requires-in-loop-i-clause-pivot : goal.clear_run-requires-in-loop-i-clause-pivot
clear_run-requires-in-loop-i-clause-pivot c =
    let k = c.requires.kept in
    pivot_by c.args.order c.args.rows.now c.read_row-v.result c.args.place c.factor_of-factor.result c.fill_multiples.new.all c.read_row-v.ensures (c.requires.laid.of_first 0 (omega arith)) c.requires.place
    c.requires.some_digit (clearing_is c.args.order c.args.rows.now c.args.place c.factor_of-factor.result c.requires.place c.factor_of-factor.ensures) c.fill_multiples.ensures.multiples

pub loop-i-preserved : goal.loop-i-preserved
loop-i-preserved c = record {
  size = c.clear_run-in-loop-i.ensures.size ∙ c.loop-i.invariant.size;
  left = more_left c.args.order c.args.rows.now c.args.first c.loop-i.i c.args.each c.args.place c.loop-i.next c.clear_run-in-loop-i.new.next c.args.kept c.args.width c.loop-i.invariant.left
      (λ j l. cleared_as c.args.order c.args.rows.now c.read_row-v.result c.args.place c.factor_of-factor.result _ _ _ c.read_row-v.ensures
      (clearing_is c.args.order c.args.rows.now c.args.place c.factor_of-factor.result c.requires.place c.factor_of-factor.ensures) refl (c.clear_run-in-loop-i.ensures.done j l))
      c.clear_run-in-loop-i.ensures.before;
}
