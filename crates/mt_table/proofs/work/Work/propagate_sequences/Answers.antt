use Rattle.std.proofs.Common.{arith}
use Rattle.mt_table.proofs.WorkLemmas.{propagated_after, rises_step, rises_refl}
use Rattle.mt_table.proofs.StepLemmas.{pays_refl, pays_step, pays_high}
use Rattle.mt_table.proofs.work.Work.propagate_sequences.Goals as goal
use Rattle.mt_table.proofs.work.Work.propagate_sequences.Goals.{then-matches+then-take_at, else-matches, else-matches-via-then-matches+else-take_at, else-matches-via-else-matches}

pub loop-n-preserved : goal.loop-n-preserved
loop-n-preserved g c = elim c.if-matches.branch [
  | then-matches+then-take_at w ↦
      let taken = w.take_at.ensures.taken w.if-take_at.true in
      rw (w.self-is, w.steps-is, w.count-is) (
        propagated_after c.loop-n.self w.take_at.new.self w.try_all-count.new.self c.at-cell.result c.loop-n.n taken (rw taken.bounds c.at-cell.ensures.inside) (rw taken.bounds c.at-cell.ensures.number) c.loop-n.invariant.0 w.try_all-count.ensures.grows w.try_all-count.ensures.tried,
        rises_step c.args.self.now c.loop-n.self w.take_at.new.self w.try_all-count.new.self c.loop-n.n c.loop-n.invariant.1 taken w.try_all-count.ensures.grows,
        omega (arith, c.loop-n.invariant.2, w.try_all-count.ensures.counted),
        pays_step c.args.self.now c.loop-n.self w.take_at.new.self w.try_all-count.new.self c.loop-n.n c.loop-n.count w.try_all-count.result c.loop-n.invariant.1.bounds c.loop-n.invariant.3 taken w.try_all-count.ensures.grows w.try_all-count.ensures.few,
      )
  | else-matches w ↦
      elim w.else-matches.branch [
        | else-matches-via-then-matches+else-take_at v ↦ rw (w.self-is, w.steps-is, w.count-is, v.self-is, v.take_at.ensures.unchanged v.if-take_at.false) c.loop-n.invariant
        | else-matches-via-else-matches v ↦ rw (w.self-is, w.steps-is, w.count-is, v.self-is) c.loop-n.invariant
      ]
]

pub overflow_add-count : goal.overflow_add-count
overflow_add-count g c =
    let taken = c.take_at.ensures.taken c.if-take_at.true in
    omega (
      arith,
      pays_high c.args.self.now c.try_all-count.new.self _ (pays_step c.args.self.now c.loop-n.self c.take_at.new.self c.try_all-count.new.self c.loop-n.n c.loop-n.count c.try_all-count.result c.loop-n.invariant.1.bounds c.loop-n.invariant.3 taken c.try_all-count.ensures.grows c.try_all-count.ensures.few),
    )

pub loop-n-init : goal.loop-n-init
loop-n-init g c = (c.requires, rises_refl c.args.self.now, omega arith, pays_refl c.args.self.now)
