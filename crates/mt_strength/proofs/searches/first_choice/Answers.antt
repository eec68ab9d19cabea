use Rattle.std.proofs.Common.{◌≡◌, ◌-◌, ℕ, List, length, drop, sym, ap, ◌∙◌, subst, arith}
use Rattle.std.proofs.lemmas.List.{take_at}
use Rattle.mt_linear.specs.declared.order.Order.{Order}
use Rattle.mt_system.specs.Rows.{rows_by}
use Rattle.mt_strength.specs.FirstChoices.{IsLeastFound}
use Rattle.mt_strength.specs.Searches.{AllIndependent}
use Rattle.mt_strength.specs.Walks.{digits_in}
use Rattle.mt_strength.proofs.PackedLemmas.{laid_packed, all_packed, first_packed}
use Rattle.mt_strength.proofs.searches.first_choice.Goals as goal

pub search-holds-requires-clause-laid : goal.search-holds-requires-clause-laid
search-holds-requires-clause-laid c =
    let from = c.order.ensures.system.coordinates_from in
    let e = c.s-s.ensures in
    laid_packed c.args.system.now c.order.result c.args.width c.min-each.result c.s-s.result c.deref.result.now c.in_ok-rows.rows.items c.order.ensures.value c.deref.ensures.value e (omega arith)
    c.in_ok-rows.ensures.packed c.in_ok-rows.ensures.size c.order.ensures.system.elements

pub returns-then-holds : goal.returns-then-holds
returns-then-holds c =
    let from = c.order.ensures.system.coordinates_from in
    let e = c.s-s.ensures in
    let each = c.min-each.result in
    let others = c.s-s.result - 1 in
    all_packed c.args.system.now c.args.width each others c.args.depth c.args.k c.in_ok-rows.rows.items (omega arith) c.in_ok-rows.ensures.packed
    c.order.ensures.system.elements c.requires.lanes c.min-each.ensures
    (subst (λ (o : Order). AllIndependent o (rows_by (digits_in o c.in_ok-rows.rows.items each each)) each others each c.args.k) c.order.ensures.value
    (subst (λ (rows : List ℕ). AllIndependent c.order.result (rows_by (digits_in c.order.result rows each each)) each others each c.args.k) c.deref.ensures.value c.if-holds.ensures.independent))

pub returns : goal.returns
returns c =
    let from = c.order.ensures.system.coordinates_from in
    let e = c.s-s.ensures in
    let each = c.min-each.result in
    let others = c.s-s.result - 1 in
    let kept = c.search-holds.auto.found in
    let value = c.deref_mut-2.ensures.value in
    let ok = c.in_ok-found.found.ok in
    let long : length c.search-holds.new.found ≡ c.in_ok-found.found.len = kept ∙ ap length value ∙ sym ok.0 in
    let items : c.of.result ≡ c.search-holds.new.found =
    c.of.ensures ∙ take_at c.search-holds.new.found (drop (length c.search-holds.new.found) c.in_ok-found.found.items) c.in_ok-found.found.len long in
    rw items
    (first_packed c.args.system.now c.args.width each others c.args.depth c.args.k c.in_ok-rows.rows.items (omega arith) c.in_ok-rows.ensures.packed
    c.order.ensures.system.elements c.requires.lanes c.min-each.ensures c.search-holds.new.found
    (subst (λ (o : Order). IsLeastFound o (rows_by (digits_in o c.in_ok-rows.rows.items each each)) others each c.args.k c.search-holds.new.found) c.order.ensures.value
    (subst (λ (rows : List ℕ). IsLeastFound c.order.result (rows_by (digits_in c.order.result rows each each)) others each c.args.k c.search-holds.new.found) c.deref.ensures.value c.if-holds.ensures.first)))
