use Rattle.std.proofs.Common.{arith}
use Rattle.mt_table.proofs.WorkLemmas.{measure_falls, propagated_after, rises_step, propagates}
use Rattle.mt_table.proofs.StepLemmas.{pays_step, pays_over, pays_high}
use Rattle.mt_table.proofs.work.Work.propagate.Goals as goal

pub loop-n-smaller : goal.loop-n-smaller
loop-n-smaller g c = measure_falls c.loop-n.self c.take.new.self c.try_all-count.new.self c.in-Some.n c.in-Some.ensures.some c.try_all-count.ensures.grows

pub overflow_add-count : goal.overflow_add-count
overflow_add-count g c = omega (
  arith,
  pays_high c.args.self.now c.try_all-count.new.self _ (pays_step c.args.self.now c.loop-n.self c.take.new.self c.try_all-count.new.self c.in-Some.n c.loop-n.count c.try_all-count.result c.loop-n.invariant.1.bounds c.loop-n.invariant.3 c.in-Some.ensures.some c.try_all-count.ensures.grows c.try_all-count.ensures.few),
)

pub loop-n-preserved : goal.loop-n-preserved
loop-n-preserved g c = (
  propagated_after c.loop-n.self c.take.new.self c.try_all-count.new.self c.at-cell.result c.in-Some.n c.in-Some.ensures.some c.at-cell.ensures.inside c.at-cell.ensures.number c.loop-n.invariant.0 c.try_all-count.ensures.grows c.try_all-count.ensures.tried,
  rises_step c.args.self.now c.loop-n.self c.take.new.self c.try_all-count.new.self c.in-Some.n c.loop-n.invariant.1 c.in-Some.ensures.some c.try_all-count.ensures.grows,
  omega (arith, c.loop-n.invariant.2, c.try_all-count.ensures.counted),
  pays_step c.args.self.now c.loop-n.self c.take.new.self c.try_all-count.new.self c.in-Some.n c.loop-n.count c.try_all-count.result c.loop-n.invariant.1.bounds c.loop-n.invariant.3 c.in-Some.ensures.some c.try_all-count.ensures.grows c.try_all-count.ensures.few,
)

pub returns : goal.returns
returns g c = record {
  propagates = propagates c.args.self.now c.loop-n.self c.take.new.self c.loop-n.invariant.0 c.loop-n.invariant.1 c.in_default.ensures.none;
  counted = c.loop-n.invariant.2;
  pays = pays_over c.args.self.now c.loop-n.self c.take.new.self c.loop-n.count c.loop-n.invariant.3 c.in_default.ensures.none;
}
