use Rattle.std.proofs.Common.{◌≡◌, ◌<◌, ◌+◌, ◌-◌, ◌∙◌, ap, true, false, get_or, replicate, length, arith}
use Rattle.std.proofs.Math.ListN.{length-set}
use Rattle.mt_derive.specs.declared.nodes.Node.{Node}
use Rattle.mt_derive.specs.Marks.{IsMarked}
use Rattle.mt_derive.proofs.PlaceLemmas.{place_same}
use Rattle.mt_derive.proofs.NodeLemmas.{parent_before, is_one, is_first, is_second, no_parent}
use Rattle.mt_derive.proofs.MarkLemmas.{mark_read, mark_adds, marks_add, walked_start, walked_skip, walked_step, walked_all}
use Rattle.mt_derive.proofs.reached_nodes.marks.Goals as goal

pub loop-q-init : goal.loop-q-init
loop-q-init c =
    let none : c.in_ok-marks.marks.items ≡ replicate (c.args.n + 1) false = c.in_ok-marks.ensures.items_if_clones_equal (λ y e. e) in
    rw none (walked_start c.args.nodes.now.list c.args.n c.requires)

pub index_mut-requires-in-One : goal.index_mut-requires-in-One
index_mut-requires-in-One c =
    let before : c.in-One.parent < c.loop-q.q - 1 = (parent_before _ _ _ _ c.get.ensures.right (is_one c.get.result _ _ c.in-One.is)).0 in
    omega (arith, c.loop-q.invariant.count)

pub loop-q-preserved-in-One : goal.loop-q-preserved-in-One
loop-q-preserved-in-One c =
    let fits : c.loop-q.q - 1 < length c.loop-q.marks.items = omega (arith, c.loop-q.invariant.count) in
    let marked : IsMarked c.loop-q.marks.items (c.loop-q.q - 1) = mark_read _ _ _ fits c.index.ensures ∙ c.if-index.true in
    let before : c.in-One.parent < c.loop-q.q - 1 = (parent_before _ _ _ _ c.get.ensures.right (is_one c.get.result _ _ c.in-One.is)).0 in
    walked_step _ _ (c.loop-q.q - 1) c.loop-q.q _ _ c.get.result (omega arith) (omega arith) c.loop-q.invariant marked
    c.get.ensures.place c.get.ensures.right (mark_adds c.get.result _ _ _ c.in-One.is (omega arith))

pub index_mut-requires-in-Two : goal.index_mut-requires-in-Two
index_mut-requires-in-Two c =
    let before : c.in-Two.first < c.loop-q.q - 1 = (parent_before _ _ _ _ c.get.ensures.right (is_first c.get.result _ _ _ c.in-Two.is)).0 in
    omega (arith, c.loop-q.invariant.count)

pub index_mut-requires-in-Two-2 : goal.index_mut-requires-in-Two-2
index_mut-requires-in-Two-2 c =
    let before : c.in-Two.second < c.loop-q.q - 1 = (parent_before _ _ _ _ c.get.ensures.right (is_second c.get.result _ _ _ c.in-Two.is)).0 in
    omega (arith, c.loop-q.invariant.count, length-set c.loop-q.marks.items c.in-Two.first true)

pub loop-q-preserved-in-Two : goal.loop-q-preserved-in-Two
loop-q-preserved-in-Two c =
    let fits : c.loop-q.q - 1 < length c.loop-q.marks.items = omega (arith, c.loop-q.invariant.count) in
    let marked : IsMarked c.loop-q.marks.items (c.loop-q.q - 1) = mark_read _ _ _ fits c.index.ensures ∙ c.if-index.true in
    let first : c.in-Two.first < c.loop-q.q - 1 = (parent_before _ _ _ _ c.get.ensures.right (is_first c.get.result _ _ _ c.in-Two.is)).0 in
    let second : c.in-Two.second < c.loop-q.q - 1 = (parent_before _ _ _ _ c.get.ensures.right (is_second c.get.result _ _ _ c.in-Two.is)).0 in
    walked_step _ _ (c.loop-q.q - 1) c.loop-q.q _ _ c.get.result (omega arith) (omega arith) c.loop-q.invariant marked
    c.get.ensures.place c.get.ensures.right (marks_add c.get.result _ _ _ _ c.in-Two.is (omega arith) (omega arith))

pub loop-q-preserved-in_default : goal.loop-q-preserved-in_default
loop-q-preserved-in_default c = walked_skip _ _ (c.loop-q.q - 1) c.loop-q.q _ (omega arith) c.loop-q.invariant
    (λ node p m at e.
    let same : c.get.result.made ≡ node.made =
    ap (λ (x : Node). x.made) (place_same c.args.nodes.now.list (c.loop-q.q - 1) c.get.result node c.get.ensures.place at) in
    no_parent node p (λ r o is. c.in_default.not-One r o (same ∙ is)) (λ r o i is. c.in_default.not-Two r o i (same ∙ is)) e)

pub loop-q-preserved : goal.loop-q-preserved
loop-q-preserved c =
    let fits : c.loop-q.q - 1 < length c.loop-q.marks.items = omega (arith, c.loop-q.invariant.count) in
    let bare : get_or c.loop-q.marks.items (c.loop-q.q - 1) false ≡ false = mark_read _ _ _ fits c.index.ensures ∙ c.if-index.false in
    walked_skip _ _ (c.loop-q.q - 1) c.loop-q.q _ (omega arith) c.loop-q.invariant (λ node p m at e. cc)

pub returns : goal.returns
returns c = let none : c.loop-q.q ≡ 0 = omega arith in walked_all _ _ _ (rw none at c.loop-q.invariant)
