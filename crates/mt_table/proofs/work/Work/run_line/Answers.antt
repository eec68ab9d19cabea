use Rattle.std.proofs.Common.{rules, arith, inr, ◌≤◌}
use Rattle.mt_cells.specs.Spots.{IsSpot}
use Rattle.mt_cells.proofs.SpotLemmas.{holds, stands}
use Rattle.mt_table.proofs.LineLemmas.{line_step, line_skip}
use Rattle.mt_table.proofs.WorkLemmas.{grows_trans}
use Rattle.mt_table.proofs.work.Work.run_line.Goals as goal
use Rattle.mt_table.proofs.work.Work.run_line.Goals.{then-s-line, else-s-line}

pub offer-count-requires-clause-instance : goal.offer-count-requires-clause-instance
offer-count-requires-clause-instance g c =
    let at = c.args.self.now in
    let line = c.args.line.now in
    rw (c.instance-instance.ensures, c.loop-s.invariant.0.bounds, c.loop-s.invariant.0.rules)
    (holds at.bounds at.rules c.args.cell line.stage line.m line.depth c.loop-s.s c.requires.inside (c.requires.right.only c.loop-s.s (search rules) (search rules) c.if-s-line.true))

pub loop-s-preserved : goal.loop-s-preserved
loop-s-preserved g c =
    let v = c.args.self.now in
    let line = c.args.line.now in
    let from : line.first ≤ c.loop-s.s = search rules in
    let to : c.loop-s.s ≤ line.last = search rules in elim c.if-s-line.branch [
      | then-s-line w ↦
          let spot : IsSpot v.bounds v.rules c.args.cell line.stage line.m line.depth c.loop-s.s = c.requires.right.only c.loop-s.s from to w.if-s-line.true in
          rw (w.self-is, w.steps-is, w.count-is) (
            grows_trans v c.loop-s.self w.offer-count.new.self c.loop-s.invariant.0 w.offer-count.ensures.grows,
            line_step v.bounds v.rules c.loop-s.self w.offer-count.new.self c.args.cell line.stage line.m line.depth c.loop-s.s _ w.offer-count.ensures.grows c.loop-s.invariant.1 w.instance-instance.ensures w.offer-count.ensures.propagated,
            omega (arith, c.loop-s.invariant.2, w.offer-count.ensures.counted),
            omega (arith, c.loop-s.invariant.3, w.offer-count.ensures.once),
            inr (stands v.bounds v.rules c.args.cell line.stage line.m line.depth c.loop-s.s c.requires.inside spot).used,
          )
      | else-s-line w ↦ rw (w.self-is, w.steps-is, w.count-is) (
        c.loop-s.invariant.0,
        line_skip v.bounds v.rules c.loop-s.self c.args.cell line.stage line.m line.depth c.loop-s.s c.loop-s.invariant.1 (λ p x. (c.requires.right.all c.loop-s.s p x).2 w.if-s-line.false),
        c.loop-s.invariant.2,
        omega (arith, c.loop-s.invariant.3),
        c.loop-s.invariant.4,
      )
    ]

pub returns-clause-tried : goal.returns-clause-tried
returns-clause-tried g c = λ s p x. c.loop-s.invariant.1 s p x (let low = (c.requires.right.all s p x).1 in omega (arith, low))
