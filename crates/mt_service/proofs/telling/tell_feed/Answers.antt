use Rattle.std.proofs.Common.{arith}
use Rattle.mt_service.proofs.TellLemmas.{tells_none, tells_more, tells_whole}
use Rattle.mt_service.proofs.telling.tell_feed.Goals as goal

pub loop-n-init : goal.loop-n-init
loop-n-init g c = λ E e grown.
    tells_none c.args.table.now.bounds c.args.table.now.rules E c.args.table.now.events _ _ c.args.feed.now

pub loop-n-preserved : goal.loop-n-preserved
loop-n-preserved g c = λ E e grown.
    tells_more c.args.table.now.bounds c.args.table.now.rules E c.args.table.now.events _ _ c.loop-n.n c.at.result c.args.feed.now c.loop-n.feed c.tell_cell.new.feed
    (rw c.bounds-in-loop-n.ensures at c.at.ensures.inside) (rw c.bounds-in-loop-n.ensures at c.at.ensures.number) (c.loop-n.invariant E e grown) (c.tell_cell.ensures E e grown)

pub returns : goal.returns
returns g c = λ E e grown.
    let cells = rw c.bounds.ensures at c.cells-n-end.ensures in
    tells_whole c.args.table.now.bounds c.args.table.now.rules E c.args.table.now.events _ _ c.loop-n.n c.args.feed.now c.loop-n.feed
    (omega (arith, c.loop-n-test.false, cells)) (c.loop-n.invariant E e grown)
