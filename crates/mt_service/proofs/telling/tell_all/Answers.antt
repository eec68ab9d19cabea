use Rattle.std.proofs.Common.{arith}
use Rattle.mt_service.proofs.TellLemmas.{telling_more, telling_whole, told_last}
use Rattle.mt_service.proofs.telling.tell_all.Goals as goal

pub loop-i-preserved : goal.loop-i-preserved
loop-i-preserved g c = λ E e grown.
    telling_more _ c.loop-i.i c.args.feeds.now.items c.loop-i.feeds.items _ c.tell_feed.new.feed (omega (arith, c.loop-i-test.true, c.len-i-end.ensures))
    (c.loop-i.invariant E e grown) c.index_mut.ensures.value (c.tell_feed.ensures E e grown)

pub returns : goal.returns
returns g c = λ E e grown.
    told_last c.args.table.now.bounds c.args.table.now.rules _ _ E e c.args.table.now.events c.args.feeds.now.items c.loop-i.feeds.items grown
    (telling_whole _ c.loop-i.i c.args.feeds.now.items c.loop-i.feeds.items (omega (arith, c.loop-i-test.false, c.len-i-end.ensures)) (c.loop-i.invariant E e grown))
