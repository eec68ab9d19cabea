use Rattle.std.proofs.Common.{◌≡◌, ◌-◌, None, Some, take, sym, ◌∙◌, subst, arith}
use Rattle.mt_system.specs.Statements.{Statement, statement_of}
use Rattle.mt_derive.specs.Trees.{Axiom}
use Rattle.mt_derive.specs.declared.nodes.Node.{Node}
use Rattle.mt_derive.specs.Places.{IsAt}
use Rattle.mt_derive.specs.Events.{imports_of}
use Rattle.mt_derive.specs.Imports.{IsImport}
use Rattle.mt_derive.specs.Nodes.{IsAxiomNode, IsRuleNode, ShowsClaim, made_of}
use Rattle.mt_derive.specs.Systems.{IsWhole, IsAxiomSystem, IsRuleSystem, IsPairSystem}
use Rattle.mt_derive.specs.Ready.{IsKnown}
use Rattle.mt_derive.proofs.PlaceLemmas.{place_below, place_same}
use Rattle.mt_derive.proofs.NodeLemmas.{is_one, is_first, is_second}
use Rattle.mt_derive.proofs.BuildLemmas.{axiom_known, import_known, parent_known, parent_ready, parents_ready, rule_known, pair_known, parent_of, parents_of, parent_place, axiom_of}
use Rattle.mt_derive.proofs.node_system.system_of.Goals as goal

pub get-requires-clause-from : goal.get-requires-clause-from
get-requires-clause-from c = (c.requires.shown c.in-Import.n c.get-node.result c.get-node.ensures.place c.in-Import.is).1.0

pub get-requires-clause-to : goal.get-requires-clause-to
get-requires-clause-to c =
    let import : (x : Statement) × IsImport (imports_of c.args.imports.now.events) c.in-Import.n x × ShowsClaim c.get-node.result x =
    c.requires.shown c.in-Import.n c.get-node.result c.get-node.ensures.place c.in-Import.is in
    omega (arith, place_below (imports_of c.args.imports.now.events) (c.in-Import.n - 1) import.0 import.1.1, import.1.0)

pub system_at-parent-requires-clause-place : goal.system_at-parent-requires-clause-place
system_at-parent-requires-clause-place c = parent_place c.args.nodes.now.list _ _ c.args.number c.get-node.result c.in-One.parent
    c.requires.parent c.get-node.ensures.place c.get-node.ensures.right (is_one c.get-node.result _ _ c.in-One.is)

pub system_at-first-requires-clause-place : goal.system_at-first-requires-clause-place
system_at-first-requires-clause-place c = parent_place c.args.nodes.now.list _ _ c.args.number c.get-node.result c.in-Two.first
    c.requires.parent c.get-node.ensures.place c.get-node.ensures.right (is_first c.get-node.result _ _ _ c.in-Two.is)

pub system_at-second-requires-clause-place : goal.system_at-second-requires-clause-place
system_at-second-requires-clause-place c = parent_place c.args.nodes.now.list _ _ c.args.number c.get-node.result c.in-Two.second
    c.requires.parent c.get-node.ensures.place c.get-node.ensures.right (is_second c.get-node.result _ _ _ c.in-Two.is)

pub made_by-requires : goal.made_by-requires
made_by-requires c =
    let x : (x : Node) × IsAt c.args.nodes.now.list c.in-One.parent x × IsRuleNode c.in-One.rule x None c.get-node.result =
    parent_of c.args.nodes.now.list c.args.number c.get-node.result c.in-One.rule c.in-One.parent c.get-node.ensures.right c.in-One.is in
    parent_ready c.args.nodes.now.list (imports_of c.args.imports.now.events) c.in-One.parent c.in-One.rule x.0 c.get-node.result c.system_at-parent.result.now
    x.1 x.2
    (parent_known _ _ c.args.order.now c.args.systems.now c.in-One.parent c.system_at-parent.result.now c.requires.known c.system_at-parent.ensures)

pub made_by_two-requires : goal.made_by_two-requires
made_by_two-requires c =
    let x : (x y : Node) × IsAt c.args.nodes.now.list c.in-Two.first x × IsAt c.args.nodes.now.list c.in-Two.second y
    × IsRuleNode c.in-Two.rule x (Some y) c.get-node.result =
    parents_of c.args.nodes.now.list c.args.number c.get-node.result c.in-Two.rule c.in-Two.first c.in-Two.second c.get-node.ensures.right c.in-Two.is in
    parents_ready c.args.nodes.now.list (imports_of c.args.imports.now.events) c.in-Two.first c.in-Two.second c.in-Two.rule x.0 x.1 c.get-node.result
    c.system_at-first.result.now c.system_at-second.result.now x.2 x.3 x.4
    (parent_known _ _ c.args.order.now c.args.systems.now c.in-Two.first c.system_at-first.result.now c.requires.known c.system_at-first.ensures)
    (parent_known _ _ c.args.order.now c.args.systems.now c.in-Two.second c.system_at-second.result.now c.requires.known c.system_at-second.ensures)

pub axiom_system-requires : goal.axiom_system-requires
axiom_system-requires c =
    let x : (x : Axiom) × IsAxiomNode x c.get-node.result × (c.get-node.result.made ≡ made_of x) =
    axiom_of (take c.args.number c.args.nodes.now.list) c.get-node.result c.get-node.ensures.right c.in_default.not-Import c.in_default.not-One c.in_default.not-Two in
    (c.get-node.ensures.right.0.0, c.get-node.ensures.right.0.1, x)

pub returns-in_ok-copy-in-Import : goal.returns-in_ok-copy-in-Import
returns-in_ok-copy-in-Import c =
    let import : (x : Statement) × IsImport (imports_of c.args.imports.now.events) c.in-Import.n x × ShowsClaim c.get-node.result x =
    c.requires.shown c.in-Import.n c.get-node.result c.get-node.ensures.place c.in-Import.is in
    let same : import.0 ≡ statement_of c.get.result.now =
    place_same (imports_of c.args.imports.now.events) (c.in-Import.n - 1) import.0 (statement_of c.get.result.now) import.1.1 c.get.ensures.place.1 in
    let copied : c.whole.result ≡ c.get.result.now.system = c.whole.ensures.same ∙ c.in_ok-copy-in-Import.ensures in
    subst (λ z. IsKnown c.args.nodes.now.list (imports_of c.args.imports.now.events) c.args.number z) (sym copied)
    (import_known c.args.nodes.now.list (imports_of c.args.imports.now.events) c.args.number c.in-Import.n c.get-node.result (statement_of c.get.result.now)
    c.get-node.ensures.place c.in-Import.is c.get.ensures.place (subst (ShowsClaim c.get-node.result) same import.2) (subst IsWhole copied c.whole.ensures.whole)
    c.get.result.now.is_claim c.get.ensures.holds)

pub returns-in_ok-made_by-in-One : goal.returns-in_ok-made_by-in-One
returns-in_ok-made_by-in-One c =
    let x : (x : Node) × IsAt c.args.nodes.now.list c.in-One.parent x × IsRuleNode c.in-One.rule x None c.get-node.result =
    parent_of c.args.nodes.now.list c.args.number c.get-node.result c.in-One.rule c.in-One.parent c.get-node.ensures.right c.in-One.is in
    rule_known c.args.nodes.now.list (imports_of c.args.imports.now.events) c.args.number c.in-One.parent c.in-One.rule x.0 c.get-node.result
    c.system_at-parent.result.now c.whole-in-One.result c.get-node.ensures.place c.in-One.is x.1 x.2
    (parent_known _ _ c.args.order.now c.args.systems.now c.in-One.parent c.system_at-parent.result.now c.requires.known c.system_at-parent.ensures)
    c.whole-in-One.ensures.whole
    (subst (IsRuleSystem c.in-One.rule c.system_at-parent.result.now) (sym c.whole-in-One.ensures.same) c.in_ok-made_by-in-One.ensures)

pub returns-in_ok-made_by_two-in-Two : goal.returns-in_ok-made_by_two-in-Two
returns-in_ok-made_by_two-in-Two c =
    let x : (x y : Node) × IsAt c.args.nodes.now.list c.in-Two.first x × IsAt c.args.nodes.now.list c.in-Two.second y
    × IsRuleNode c.in-Two.rule x (Some y) c.get-node.result =
    parents_of c.args.nodes.now.list c.args.number c.get-node.result c.in-Two.rule c.in-Two.first c.in-Two.second c.get-node.ensures.right c.in-Two.is in
    pair_known c.args.nodes.now.list (imports_of c.args.imports.now.events) c.args.number c.in-Two.first c.in-Two.second c.in-Two.rule x.0 x.1 c.get-node.result
    c.system_at-first.result.now c.system_at-second.result.now c.whole-in-Two.result c.get-node.ensures.place c.in-Two.is x.2 x.3 x.4
    (parent_known _ _ c.args.order.now c.args.systems.now c.in-Two.first c.system_at-first.result.now c.requires.known c.system_at-first.ensures)
    (parent_known _ _ c.args.order.now c.args.systems.now c.in-Two.second c.system_at-second.result.now c.requires.known c.system_at-second.ensures)
    c.whole-in-Two.ensures.whole
    (subst (IsPairSystem c.in-Two.rule c.system_at-first.result.now c.system_at-second.result.now) (sym c.whole-in-Two.ensures.same)
    c.in_ok-made_by_two-in-Two.ensures)

pub returns-in_ok-axiom_system-in_default : goal.returns-in_ok-axiom_system-in_default
returns-in_ok-axiom_system-in_default c =
    let x : (x : Axiom) × IsAxiomNode x c.get-node.result × (c.get-node.result.made ≡ made_of x) =
    axiom_of (take c.args.number c.args.nodes.now.list) c.get-node.result c.get-node.ensures.right c.in_default.not-Import c.in_default.not-One c.in_default.not-Two in
    let made : IsAxiomSystem x.0 c.get-node.result.cell c.in_ok-axiom_system-in_default.field-0 = c.in_ok-axiom_system-in_default.ensures x.0 x.2 in
    axiom_known c.args.nodes.now.list (imports_of c.args.imports.now.events) c.args.number c.get-node.result x.0 c.get-node.ensures.right.0.0 c.whole-in_default.result
    c.get-node.ensures.place x.2 c.get-node.ensures.right.0.1 x.1 c.whole-in_default.ensures.whole
    (subst (IsAxiomSystem x.0 c.get-node.result.cell) (sym c.whole-in_default.ensures.same) made)
