use Rattle.std.proofs.Common.{◌≡◌, List, Bool, length, sym, subst, arith}
use Rattle.mt_derive.specs.Marks.{AreMarks}
use Rattle.mt_derive.proofs.FoundLemmas.{found_push, found_skip, found_all}
use Rattle.mt_derive.proofs.reached_nodes.reachable.Goals as goal
use Rattle.mt_derive.proofs.reached_nodes.reachable.Goals.{then-mark+in_ok-push, else-mark}

pub loop-q-preserved : goal.loop-q-preserved
loop-q-preserved c = elim c.if-mark.branch [
  | then-mark+in_ok-push w ↦ rw (w.found-is, w.in_ok-push.ensures.items) (found_push _ _ _ c.loop-q.invariant w.if-mark.true)
  | else-mark w ↦ rw w.found-is (found_skip _ _ _ c.loop-q.invariant w.if-mark.false)
]

pub returns : goal.returns
returns c =
    let all : c.loop-q.q ≡ length c.deref-mark-items.result.now = omega arith in
    let marks : AreMarks c.args.nodes.now.list c.args.n c.deref-mark-items.result.now =
    subst (λ (marks : List Bool). AreMarks c.args.nodes.now.list c.args.n marks) (sym c.deref-mark-items.ensures.value) c.in_ok-marks.ensures in
    found_all _ _ _ _ c.requires marks (rw all at c.loop-q.invariant)
