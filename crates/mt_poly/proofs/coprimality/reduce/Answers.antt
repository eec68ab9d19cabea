use Rattle.mt_poly.proofs.CoprimalityLemmas.{same_trans}
use Rattle.mt_poly.proofs.coprimality.reduce.Goals as goal

pub loop-order-preserved : goal.loop-order-preserved
loop-order-preserved c = record {
  same = same_trans c.args.order c.args.divisor.now c.args.rest.now.items c.loop-order.rest.items c.reduce_once.new.rest.items c.loop-order.invariant.same c.reduce_once.ensures.same;
  polynomial = c.reduce_once.ensures.polynomial;
}
