use Rattle.std.proofs.Common.{◌++◌, ◌∷◌, []}
use Rattle.mt_derive.specs.declared.events.Event.TheVariants.{Withdraw}
use Rattle.mt_derive.specs.Events.{entries_of, AllFollow}
use Rattle.mt_table.specs.Shapes.{sum_of}
use Rattle.mt_table.specs.Fixed.{IsFixed}
use Rattle.mt_table.proofs.FixedLemmas.{fixed}
use Rattle.mt_table.proofs.ListLemmas.{live_fit}
use Rattle.mt_table.proofs.StepLemmas.{score_is}
use Rattle.mt_table.proofs.table.withdraw.Goals as goal

pub rebuild-requires-clause-fits : goal.rebuild-requires-clause-fits
rebuild-requires-clause-fits g c =
    let v = c.args.work.now in
    let E = c.args.imports.now.events in
    let all : AllFollow v.bounds (E ++ Withdraw c.args.n ∷ []) = rw (c.withdraw.ensures.bounds, c.requires.bounds, c.withdraw.ensures.events) at c.events-events.ensures.follow in
    rw c.withdraw.ensures.events (live_fit v E c.args.n all c.requires.fixed)

pub returns-clause-fixed : goal.returns-clause-fixed
returns-clause-fixed g c = fixed c.rebuild.new.self (entries_of c.withdraw.new.self.events) c.rebuild.ensures.stands

pub returns-clause-tried : goal.returns-clause-tried
returns-clause-tried g c =
    let w = c.rebuild.new.self in
    let f : IsFixed w (entries_of c.withdraw.new.self.events) = fixed w (entries_of c.withdraw.new.self.events) c.rebuild.ensures.stands in (
      sum_of w.values.items,
      rw (c.rebuild.ensures.bounds, c.rebuild.ensures.rules, c.withdraw.ensures.events) at (score_is w (entries_of c.withdraw.new.self.events) f),
      rw c.rebuild.ensures.bounds at c.rebuild.ensures.few,
    )
