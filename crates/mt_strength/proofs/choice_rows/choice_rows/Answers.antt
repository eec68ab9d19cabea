use Rattle.std.proofs.Common.{◌≡◌, ◌+◌, ◌-◌, ◌++◌, ◌≤◌, get_or, ap, ◌∙◌, arith}
use Rattle.mt_system.specs.Rows.{part_rows, first_rows}
use Rattle.mt_strength.specs.Dependence.{lists_of}
use Rattle.mt_strength.proofs.RowLemmas.{rows_more}
use Rattle.mt_system.proofs.ChoiceOrder.{AllAtMost-at}
use Rattle.mt_strength.proofs.choice_rows.choice_rows.Goals as goal

pub push_rows-requires-clause-few : goal.push_rows-requires-clause-few
push_rows-requires-clause-few c =
    let few : get_or c.args.choice.now c.loop-i.i 0 ≤ c.args.depth = AllAtMost-at c.args.depth c.args.choice.now c.loop-i.i c.requires.choice.at_most in
    rw c.sizes-sizes.ensures.value (omega (arith, few, c.requires.few))

pub loop-i-preserved : goal.loop-i-preserved
loop-i-preserved c =
    let back : (c.loop-i.i + 1) - 1 ≡ c.loop-i.i = omega arith in
    record {
      rest = rows_more (part_rows c.args.system.now c.args.width) c.sizes-sizes.result.now c.loop-i.i (lists_of c.loop-i.rows.items) (lists_of c.push_rows.new.rows.items) _
          (omega arith) c.loop-i.invariant.rest
          (c.in_ok-push_rows.ensures.added ∙ ap (λ n. lists_of c.loop-i.rows.items ++ first_rows (part_rows c.args.system.now c.args.width n) (get_or c.sizes-sizes.result.now c.loop-i.i 0)) back);
      all = c.in_ok-push_rows.ensures.all;
    }
