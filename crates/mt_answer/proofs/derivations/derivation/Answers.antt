use Rattle.std.proofs.Common.{◌+◌, List, ℕ, length, get_or, refl, sym, ap, ◌∙◌, subst, arith}
use Rattle.std.proofs.lemmas.List.{length_push}
use Rattle.std.proofs.lemmas.List.Elements.{Contains-get_or}
use Rattle.std.specs.Prelude.{Contains}
use Rattle.mt_derive.specs.declared.nodes.Node.{Node}
use Rattle.mt_derive.specs.Nodes.{NodeList, AreReached}
use Rattle.mt_answer.specs.Places.{IsMadeAmong, IsNodeAmong, AreAmong}
use Rattle.mt_answer.proofs.PlaceLemmas.{parent_there, one_among, derivation_among}
use Rattle.mt_answer.proofs.derivations.derivation.Goals as goal

pub made_among-requires-clause-parents : goal.made_among-requires-clause-parents
made_among-requires-clause-parents c p e =
    let nodes = c.nodes-nodes.result.now.list in
    let numbers = c.deref-number-items.result.now in
    let n = c.loop-number.number-index in
    let reached : AreReached nodes c.node_of.result numbers = subst (λ (xs : List ℕ). AreReached nodes c.node_of.result xs) (sym c.deref-number-items.ensures.value) c.in_ok-numbers.ensures in
    subst (λ (xs : List ℕ). Contains xs p) (c.deref-number-items.ensures.value ∙ sym c.deref.ensures.value)
    (parent_there nodes c.node_of.result numbers reached (get_or numbers n 0) p c.get-node.result (Contains-get_or numbers n 0 c.loop-number-test.true) c.get-node.ensures.place c.get-node.ensures.right e)

pub loop-number-preserved : goal.loop-number-preserved
loop-number-preserved c =
    let nodes = c.nodes-nodes.result.now.list in
    let numbers = c.deref-number-items.result.now in
    let list = c.loop-number.list.items in
    let node : Node = record { made = c.made_among.result; cell = c.get-node.result.cell; k = c.get-node.result.k } in
    let made : IsMadeAmong numbers c.get-node.result.made node.made =
    subst (λ (xs : List ℕ). IsMadeAmong xs c.get-node.result.made c.made_among.result) (c.deref.ensures.value ∙ sym c.deref-number-items.ensures.value) c.made_among.ensures in
    let here : IsNodeAmong nodes numbers (get_or numbers c.loop-number.number-index 0) node = record { old = c.get-node.result; place = c.get-node.ensures.place; made = made; cell = refl; k = refl } in
    let new : IsNodeAmong nodes numbers (get_or numbers (length list) 0) node = subst (λ z. IsNodeAmong nodes numbers (get_or numbers z 0) node) (sym c.loop-number.invariant.count) here in
    record {
      count = ap length c.in_ok-push.ensures.items ∙ length_push list node ∙ ap (λ z. z + 1) c.loop-number.invariant.count;
      among = subst (λ (xs : List Node). AreAmong nodes numbers xs) (sym c.in_ok-push.ensures.items) (one_among nodes numbers list node c.loop-number.invariant.among new);
    }

pub returns : goal.returns
returns c =
    let nodes = c.nodes-nodes.result.now.list in
    let numbers = c.deref-number-items.result.now in
    let list = c.loop-number.list.items in
    let reached : AreReached nodes c.node_of.result numbers = subst (λ (xs : List ℕ). AreReached nodes c.node_of.result xs) (sym c.deref-number-items.ensures.value) c.in_ok-numbers.ensures in
    derivation_among nodes numbers list (omega (arith, c.loop-number.invariant.count, c.loop-number-test.false, c.loop-number.auto.number-index-end)) c.loop-number.invariant.among
    c.args.table.now c.args.cell c.node_of.result (ap (λ (x : NodeList). x.list) c.nodes-nodes.ensures.value) c.nodes-nodes.ensures.concluded c.node_of.ensures.served reached
