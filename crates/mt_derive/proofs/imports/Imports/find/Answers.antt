use Rattle.std.proofs.Common.{◌≡◌, ◌+◌, ◌<◌, ◌∙◌, length, take, ap, subst, arith}
use Rattle.std.proofs.lemmas.List.{length_push}
use Rattle.std.proofs.lemmas.List.Elements.{All-push}
use Rattle.mt_system.specs.Statements.{Statement}
use Rattle.mt_derive.specs.declared.events.Event.TheVariants.{Import}
use Rattle.mt_derive.specs.Events.{imports_of}
use Rattle.mt_derive.specs.Imports.{ImportList, IsNamed}
use Rattle.mt_derive.specs.Places.{IsAt}
use Rattle.mt_derive.proofs.PlaceLemmas.{place_get, place_below}
use Rattle.mt_derive.proofs.EventLemmas.{import_place, event_here, more_import, more_other, named_here}
use Rattle.mt_derive.proofs.imports.Imports.find.Goals.{in-Import+else-is_named, in_default}
use Rattle.mt_derive.proofs.imports.Imports.find.Goals as goal

-- there are few imports
pub overflow_add-count : goal.overflow_add-count
overflow_add-count c =
    let E = c.deref-event-items.result.now in
    let at : IsAt E c.loop-event.event-index (Import c.in-Import.entry) = event_here E c.loop-event.event-index c.event-item.result _ c.loop-event-test.true c.event-item.is c.in-Import.is in
    let below : length (imports_of (take c.loop-event.event-index E)) < length (imports_of E) = place_below _ _ _ (import_place E c.loop-event.event-index c.in-Import.entry at) in
    omega (arith, below, c.loop-event.invariant.count, ap (λ F. length (imports_of F)) c.deref-event-items.ensures.value, c.self.invariant.1.count, c.self.invariant.2)

pub returns-then-is_named : goal.returns-then-is_named
returns-then-is_named c =
    let E = c.deref-event-items.result.now in
    let i = c.loop-event.event-index in
    let at : IsAt E i (Import c.in-Import.entry) = event_here E i c.event-item.result _ c.loop-event-test.true c.event-item.is c.in-Import.is in
    let named : c.in-Import.entry.name ≡ c.args.name = c.is_named.ensures.0 c.if-is_named.true in
    let is : E ≡ c.args.self.now.events = c.deref-event-items.ensures.value ∙ ap (λ (v : ImportList). v.events) c.self.view_is in
    rw c.loop-event.invariant.count (subst (λ F. IsNamed (imports_of F) c.args.name (length (imports_of (take i E)) + 1)) is
    (named_here E i c.in-Import.entry c.args.name at c.loop-event.invariant.lacks named))

pub loop-event-preserved : goal.loop-event-preserved
loop-event-preserved c =
    let E = c.deref-event-items.result.now in
    let i = c.loop-event.event-index in
    elim c.match-event.branch [
      | in-Import+else-is_named w ↦
          let at : IsAt E i (Import w.in-Import.entry) = event_here E i c.event-item.result _ c.loop-event-test.true c.event-item.is w.in-Import.is in
          rw (more_import E i w.in-Import.entry at) (record {
            count = omega (arith, w.count-is, c.loop-event.invariant.count, length_push (imports_of (take i E)) w.in-Import.entry);
            lacks = All-push (λ (x : Statement). x.name ≡ c.args.name → ⊥) (imports_of (take i E)) w.in-Import.entry c.loop-event.invariant.lacks (λ e. let t = w.is_named.ensures.1 e in cc (t, w.if-is_named.false));
          })
      | in_default w ↦
          let at : IsAt E i c.event-item.result = place_get E i c.event-item.result c.loop-event-test.true c.event-item.is in
          rw (more_other E i c.event-item.result at w.in_default.not-Import) (record {
            count = w.count-is ∙ c.loop-event.invariant.count;
            lacks = c.loop-event.invariant.lacks;
          })
    ]
