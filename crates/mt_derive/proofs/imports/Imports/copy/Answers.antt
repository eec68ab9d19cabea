use Rattle.std.proofs.Common.{◌≡◌, ◌∙◌, take, sym, ap}
use Rattle.mt_derive.specs.declared.events.Event.TheVariants.{Import, Withdraw}
use Rattle.mt_derive.specs.Events.{Follows}
use Rattle.mt_derive.specs.Imports.{ImportList}
use Rattle.mt_derive.specs.Places.{IsAt}
use Rattle.mt_derive.proofs.EventLemmas.{event_here}
use Rattle.mt_derive.proofs.imports.Imports.copy.Goals as goal

pub push-requires : goal.push-requires
push-requires c =
    let E = c.deref-event-items.result.now in
    let i = c.loop-event.event-index in
    let at : IsAt E i (Import c.in-Import.entry) = event_here E i c.event-item.result _ c.loop-event-test.true c.event-item.is c.in-Import.is in
    let follows : Follows c.self.inside.bounds (take i E) (Import c.in-Import.entry) = rw c.deref-event-items.ensures.value (c.self.invariant.0 i (Import c.in-Import.entry) (rw (← c.deref-event-items.ensures.value) at)) in
    let bounds : c.loop-event.imports.bounds ≡ c.self.inside.bounds = c.loop-event.invariant.bounds ∙ ap (λ (v : ImportList). v.bounds) (sym c.self.view_is) in
    rw (bounds, c.loop-event.invariant.events) (record { few = follows.0; inside = follows.1; named = follows.2 })

pub withdraw-requires : goal.withdraw-requires
withdraw-requires c =
    let E = c.deref-event-items.result.now in
    let i = c.loop-event.event-index in
    let at : IsAt E i (Withdraw c.in-Withdraw.n) = event_here E i c.event-item.result _ c.loop-event-test.true c.event-item.is c.in-Withdraw.is in
    let follows : Follows c.self.inside.bounds (take i E) (Withdraw c.in-Withdraw.n) = rw c.deref-event-items.ensures.value (c.self.invariant.0 i (Withdraw c.in-Withdraw.n) (rw (← c.deref-event-items.ensures.value) at)) in
    rw c.loop-event.invariant.events follows
