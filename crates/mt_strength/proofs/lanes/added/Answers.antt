use Rattle.std.proofs.Common.{inl, inr}
use Rattle.mt_linear.specs.declared.order.Order.TheVariants.{Q2, Q3, Q4, Q5, Q7, Q8, Q9}
use Rattle.mt_strength.proofs.SumLemmas.{HasLanes-sum, sum_lanes}
use Rattle.mt_strength.proofs.lanes.added.Goals as goal
use Rattle.mt_strength.proofs.lanes.added.Goals.{in-Q2, in-Q3, in-Q5, in-Q7, in-Q9}

pub returns : goal.returns
returns c =
    let o = c.args.order in
    let x = c.args.x in
    let y = c.args.y in
    let r = c.match-order.result in
    HasLanes-sum o x y r c.requires.x c.requires.y
    (elim c.match-order.branch [
      | in-Q2 w ↦ elim w.in-Q2.is [
        | inl e ↦ sum_lanes o Q2 x y r w.xored.result e w.result-is w.xored.ensures
        | inr rest ↦ elim rest [
          | inl e ↦ sum_lanes o Q4 x y r w.xored.result e w.result-is w.xored.ensures
          | inr e ↦ sum_lanes o Q8 x y r w.xored.result e w.result-is w.xored.ensures
        ]
      ]
      | in-Q3 w ↦ sum_lanes o Q3 x y r w.summed.result w.in-Q3.is w.result-is w.summed.ensures
      | in-Q5 w ↦ sum_lanes o Q5 x y r w.summed-in-Q5.result w.in-Q5.is w.result-is w.summed-in-Q5.ensures
      | in-Q7 w ↦ sum_lanes o Q7 x y r w.summed-in-Q7.result w.in-Q7.is w.result-is w.summed-in-Q7.ensures
      | in-Q9 w ↦ sum_lanes o Q9 x y r w.summed_nine.result w.in-Q9.is w.result-is w.summed_nine.ensures
    ])
