use Rattle.std.proofs.Common.{◌≡◌, [], codes, ap, sym, ◌∙◌, subst}
use Rattle.mt_system.specs.Claims.{IsClaim}
use Rattle.mt_system.specs.Statements.{statement_of}
use Rattle.mt_derive.specs.Events.{imports_of}
use Rattle.mt_derive.specs.Built.{IsBuilt}
use Rattle.mt_derive.specs.declared.nodes.Node.{Node}
use Rattle.mt_answer.specs.Facts.{form_of}
use Rattle.mt_derive.proofs.ConcludedLemmas.{imports_shown}
use Rattle.mt_derive.proofs.PlaceLemmas.{place_same}
use Rattle.mt_answer.proofs.ClaimLemmas.{mint_is_name, claim_fits, built_served, claimed}
use Rattle.mt_answer.proofs.claims.claim_of.Goals as goal

pub build-requires-clause-imports : goal.build-requires-clause-imports
build-requires-clause-imports c =
    let t = c.args.table.now in
    rw (c.nodes-nodes.ensures.value, c.imports.ensures.events) (imports_shown t.bounds t.rules t.events t.nodes.list c.node_of-n.result c.nodes-nodes.ensures.concluded)

pub unreachable-requires : goal.unreachable-requires
unreachable-requires c = absurd (let no = c.in_default.ensures.taken.1 mint_is_name in cc)

pub unreachable-requires-in-None : goal.unreachable-requires-in-None
unreachable-requires-in-None c =
    let t = c.args.table.now in
    let a = c.args.ask.now in
    let s = c.node_of-n.ensures.served in
    let built : IsBuilt t.nodes.list (imports_of t.events) c.node_of-n.result c.in_ok-system.system = rw (c.nodes-nodes.ensures.value, c.imports.ensures.events) at c.in_ok-system.ensures in
    let same : s.node ≡ c.get.result = place_same t.nodes.list c.node_of-n.result s.node c.get.result s.place (rw c.nodes-nodes.ensures.value at c.get.ensures.place) in
    let fits : IsClaim (form_of a.kind) s.node.k c.in_ok-system.system =
    claim_fits t.bounds a c.args.cell c.in_ok-system.system s.node.k c.requires (built_served t c.args.cell c.node_of-n.result c.in_ok-system.system s built).1 s.within in
    let whole : IsClaim c.form_of.result c.get.result.k c.in_ok-system.system = rw c.form_of.ensures (subst (λ (x : Node). IsClaim (form_of a.kind) x.k c.in_ok-system.system) same fits) in
    absurd (let no = c.in-None.ensures.taken.1 whole in cc)

pub returns : goal.returns
returns c =
    let t = c.args.table.now in
    let a = c.args.ask.now in
    let s = c.node_of-n.ensures.served in
    let claim = c.in-Some-new.claim in
    let built : IsBuilt t.nodes.list (imports_of t.events) c.node_of-n.result c.in_ok-system.system = rw (c.nodes-nodes.ensures.value, c.imports.ensures.events) at c.in_ok-system.ensures in
    let same : s.node ≡ c.get.result = place_same t.nodes.list c.node_of-n.result s.node c.get.result s.place (rw c.nodes-nodes.ensures.value at c.get.ensures.place) in
    let said : statement_of claim ≡ record { form = form_of a.kind; name = codes "mint"; note = []; k = claim.k; system = claim.system } =
    cc (c.in-Some-new.ensures.form, c.form_of.ensures, c.in-Some-new.ensures.name, c.in-Some.ensures.value, c.in-Some-new.ensures.note) in
    claimed t a.kind c.args.cell c.node_of-n.result c.in_ok-system.system claim s built
    (c.in-Some-new.ensures.strength ∙ ap (λ (x : Node). x.k) (sym same)) c.in-Some-new.ensures.system said
