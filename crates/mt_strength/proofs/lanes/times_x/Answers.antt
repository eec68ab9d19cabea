use Rattle.std.proofs.Common.{inl, inr}
use Rattle.mt_linear.specs.declared.order.Order.TheVariants.{Q2, Q3, Q4, Q5, Q7, Q8, Q9}
use Rattle.mt_strength.proofs.LaneLemmas.{HasLanes-self}
use Rattle.mt_strength.proofs.SumLemmas.{HasLanes-times, times_lanes}
use Rattle.mt_strength.proofs.lanes.times_x.Goals as goal
use Rattle.mt_strength.proofs.lanes.times_x.Goals.{in-Q4, in-Q8, in-Q9, in-Q2}

pub returns : goal.returns
returns c =
    let o = c.args.order in
    let v = c.args.v in
    let r = c.match-order.result in
    let self = HasLanes-self v c.fits-v.0 in
    HasLanes-times o v r c.requires.extension c.requires.lanes
    (elim c.match-order.branch [
      | in-Q4 w ↦ times_lanes o Q4 v r w.doubled.result w.in-Q4.is w.result-is w.doubled.ensures
      | in-Q8 w ↦ times_lanes o Q8 v r w.doubled-in-Q8.result w.in-Q8.is w.result-is w.doubled-in-Q8.ensures
      | in-Q9 w ↦ times_lanes o Q9 v r w.turned_nine.result w.in-Q9.is w.result-is w.turned_nine.ensures
      | in-Q2 w ↦ elim w.in-Q2.is [
        | inl e ↦ times_lanes o Q2 v r v e w.result-is self
        | inr rest ↦ elim rest [
          | inl e ↦ times_lanes o Q3 v r v e w.result-is self
          | inr rest ↦ elim rest [
            | inl e ↦ times_lanes o Q5 v r v e w.result-is self
            | inr e ↦ times_lanes o Q7 v r v e w.result-is self
          ]
        ]
      ]
    ])
