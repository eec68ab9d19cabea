use Rattle.std.proofs.Common.{refl}
use Rattle.mt_feed.proofs.FaringLemmas.{fares_failed, fares_told}
use Rattle.mt_feed.proofs.telling.tell_unless_failed.Goals as goal

pub returns-then-has_failed : goal.returns-then-has_failed
returns-then-has_failed g c = fares_failed _ _ c.args.feed.now _ (c.if-has_failed.ensures.failed refl)

pub returns : goal.returns
returns g c = fares_told _ _ _ _ c.args.feed.now c.tell_one.new.feed c.tell_one.result _ (c.if-has_failed.ensures.sound refl) c.tell_one.ensures.line c.tell_one.ensures.fault
