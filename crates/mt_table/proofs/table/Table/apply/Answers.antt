use Rattle.std.proofs.Common.{◌≡◌, ◌+◌, ◌++◌, ◌∷◌, [], ◌∙◌, ap, length, refl, sym}
use Rattle.std.proofs.lemmas.List.{length_push}
use Rattle.mt_derive.specs.Events.{entries_of}
use Rattle.mt_table.specs.Fixed.{IsFixed}
use Rattle.mt_table.proofs.FixedLemmas.{fixed_same}
use Rattle.mt_table.proofs.SinceLemmas.{sinces_next, changed_next}
use Rattle.mt_table.proofs.table.Table.apply.Goals as goal

pub invariant_of-self : goal.invariant_of-self
invariant_of-self g c =
    let v = c.self.inside.work in
    let w = c.follow-tried.new.work in
    let E = c.self.inside.imports.events in
    let e = c.args.entry.now in
    let done = c.follow-tried.ensures in
    let f : IsFixed w (entries_of (E ++ e ∷ [])) = rw done.events at done.fixed in
    let event : c.events.result ≡ length E + 1 = c.events.ensures.count ∙ ap length done.events ∙ length_push E e in (
      fixed_same w _ (entries_of c.follow-tried.new.imports.events) refl refl refl refl refl done.fixed,
      done.bounds ∙ c.self.invariant.1 ∙ sym done.same_bounds,
      c.mark-raised.ensures.bounds ∙ c.keep.ensures.bounds ∙ c.self.invariant.2 ∙ sym done.same_bounds,
      rw (done.same_bounds, done.rules, done.events) (sinces_next v w E e done.same_bounds done.rules c.self.invariant.0 f
          c.self.inside.changes.sinces.items c.mark-raised.new.self.sinces.items c.events.result event c.self.invariant.3
          (rw (c.keep.ensures.bounds, c.self.invariant.2, c.keep.ensures.kept, c.deref.ensures.value, c.deref-2.ensures.value, c.keep.ensures.sinces) at c.mark-raised.ensures.marked)),
    )

pub returns-clause-raised : goal.returns-clause-raised
returns-clause-raised g c =
    let v = c.self.inside.work in
    let w = c.follow-tried.new.work in
    let E = c.self.inside.imports.events in
    let e = c.args.entry.now in
    let done = c.follow-tried.ensures in
    let f : IsFixed w (entries_of (E ++ e ∷ [])) = rw done.events at done.fixed in
    let found = c.mark-raised.ensures.count in (
      found.0,
      rw (← c.self.view_is, done.events) (changed_next v w E e done.same_bounds done.rules c.self.invariant.0 f found.0
          (rw (c.keep.ensures.bounds, c.self.invariant.2, c.keep.ensures.kept, c.deref.ensures.value, c.deref-2.ensures.value) at found.1)),
      found.2,
    )
