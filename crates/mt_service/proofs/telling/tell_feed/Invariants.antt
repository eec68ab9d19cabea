use Rattle.std.proofs.Common.{◌≡◌, ◌∷◌, ◌++◌, [], List}
use Rattle.mt_derive.specs.declared.events.Event.{Event}
use Rattle.mt_service.proofs.TellLemmas.{TellsTo}
use Rattle.mt_service.specs.contracts.telling.tell_feed.{dyn-1-ghosts}
use Rattle.mt_service.proofs.telling.tell_feed.Given as goal

abbrev pub invariant-loop-n : goal.invariant-loop-n
invariant-loop-n g l = (E : List Event) (e : Event) → l.table.events ≡ E ++ e ∷ []
    → TellsTo l.table.bounds l.table.rules E l.table.events
    (λ b. ((dyn-1-ghosts g.dyn-1).0.entry b.vtable).1.told b.value)
    (λ b. ((dyn-1-ghosts g.dyn-1).0.entry b.vtable).1.failures b.value)
    l.n l.fn.feed l.feed
