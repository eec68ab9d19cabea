use Rattle.std.proofs.Common.{◌≡◌, ◌∷◌, ◌++◌, [], List}
use Rattle.mt_derive.specs.declared.events.Event.{Event}
use Rattle.mt_feed.specs.declared.Change.{Change}
use Rattle.mt_feed.specs.Lines.{change_lines}
use Rattle.mt_feed.specs.Faring.{Fares}
use Rattle.mt_service.specs.Telling.{AreChanges}
use Rattle.mt_service.proofs.TellLemmas.{AllTelling}
use Rattle.mt_service.specs.contracts.telling.tell_all.{dyn-1-ghosts}
use Rattle.mt_service.proofs.telling.tell_all.Given as goal

abbrev pub invariant-loop-i : goal.invariant-loop-i
invariant-loop-i g l = (E : List Event) (e : Event) → l.table.events ≡ E ++ e ∷ []
    → AllTelling (λ f g'. (changes : List Change) × AreChanges l.table.bounds l.table.rules E l.table.events changes
    × Fares (λ b. ((dyn-1-ghosts g.dyn-1).0.entry b.vtable).1.told b.value)
    (λ b. ((dyn-1-ghosts g.dyn-1).0.entry b.vtable).1.failures b.value) (change_lines changes) f g')
    l.i l.fn.feeds.items l.feeds.items
