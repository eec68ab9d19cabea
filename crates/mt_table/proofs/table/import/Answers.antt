use Rattle.std.proofs.Common.{arith, ◌++◌, ◌∷◌, [], ◌∙◌, ap, length, subst}
use Rattle.mt_derive.specs.declared.events.Event.TheVariants.{Import}
use Rattle.mt_derive.specs.Events.{imports_of, entries_of, AllFollow}
use Rattle.mt_derive.proofs.EventLemmas.{count_import}
use Rattle.mt_table.specs.Works.{Accepts}
use Rattle.mt_table.specs.Fixed.{IsFixed}
use Rattle.mt_table.proofs.ListLemmas.{pushed, fixed_import, import_tried}
use Rattle.mt_table.proofs.table.import.Goals as goal

pub node-requires-clause-from : goal.node-requires-clause-from
node-requires-clause-from g c =
    let E = c.args.imports.now.events in
    let d = c.args.entry.now in
    omega (arith, c.len.ensures ∙ ap (λ F. length (imports_of F)) c.push.ensures.events ∙ count_import E d)

pub accept-requires-clause-inside : goal.accept-requires-clause-inside
accept-requires-clause-inside g c =
    rw (pushed c.args.imports.now.events c.push.new.self.events c.args.entry.now c.len.result c.strength_of.result c.node.result c.push.ensures.events c.len.ensures c.node.ensures c.strength_of.ensures.value).cell c.requires.follows.1

pub accept-requires-clause-within : goal.accept-requires-clause-within
accept-requires-clause-within g c =
    rw (pushed c.args.imports.now.events c.push.new.self.events c.args.entry.now c.len.result c.strength_of.result c.node.result c.push.ensures.events c.len.ensures c.node.ensures c.strength_of.ensures.value).cell c.strength_of.ensures.within

pub returns-clause-fixed : goal.returns-clause-fixed
returns-clause-fixed g c =
    let v = c.args.work.now in
    let w = c.accept.new.self in
    let E = c.args.imports.now.events in
    let d = c.args.entry.now in
    let is = pushed E c.push.new.self.events d c.len.result c.strength_of.result c.node.result c.push.ensures.events c.len.ensures c.node.ensures c.strength_of.ensures.value in
    let all : AllFollow v.bounds (E ++ Import d ∷ []) = rw (c.push.ensures.bounds, c.requires.bounds, c.push.ensures.events) at c.events-events.ensures.follow in
    rw c.push.ensures.events (fixed_import v w E d all c.requires.fixed (subst (λ x. Accepts v w x) is.whole c.accept.ensures.accepts))

pub returns-clause-tried : goal.returns-clause-tried
returns-clause-tried g c =
    let v = c.args.work.now in
    let w = c.accept.new.self in
    let E = c.args.imports.now.events in
    let d = c.args.entry.now in
    let is = pushed E c.push.new.self.events d c.len.result c.strength_of.result c.node.result c.push.ensures.events c.len.ensures c.node.ensures c.strength_of.ensures.value in
    let all : AllFollow v.bounds (E ++ Import d ∷ []) = rw (c.push.ensures.bounds, c.requires.bounds, c.push.ensures.events) at c.events-events.ensures.follow in
    let fixed : IsFixed w (entries_of (E ++ Import d ∷ [])) = fixed_import v w E d all c.requires.fixed (subst (λ x. Accepts v w x) is.whole c.accept.ensures.accepts) in
    import_tried v w E d c.accept.result c.accept.ensures.accepts.bounds c.accept.ensures.accepts.rules c.requires.fixed fixed c.accept.ensures.tries
