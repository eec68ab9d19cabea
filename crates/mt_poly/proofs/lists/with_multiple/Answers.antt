use Rattle.std.proofs.Common.{◌<◌, ◌≤◌, length, get_or, sym, subst, arith}
use Rattle.mt_linear.specs.Field.{number_of, add_of, mul_of}
use Rattle.mt_linear.proofs.FieldLaws.{add_lt}
use Rattle.mt_poly.proofs.ListLemmas.{whole, multiple_past}
use Rattle.mt_poly.proofs.lists.with_multiple.Goals as goal
use Rattle.mt_poly.proofs.lists.with_multiple.Goals.{then-a-b, else-a-b}

pub returns-clause-sum : goal.returns-clause-sum
returns-clause-sum c =
    let left : length c.args.a.now ≤ c.loop-i.i = elim c.if-a-b.branch [ then-a-b w ↦ omega arith | else-a-b w ↦ omega arith ] in
    let right : length c.args.b.now ≤ c.loop-i.i = elim c.if-a-b.branch [ then-a-b w ↦ omega arith | else-a-b w ↦ omega arith ] in
    whole c.loop-i.sum.items c.loop-i.i (λ k. add_of c.args.order (get_or c.args.a.now k 0) (mul_of c.args.order c.args.factor (get_or c.args.b.now k 0)))
    c.loop-i.invariant.size c.loop-i.invariant.done
    (λ k l. multiple_past c.args.order c.args.a.now c.args.b.now c.args.factor k (omega arith) (omega arith))

pub returns-clause-elements : goal.returns-clause-elements
returns-clause-elements c = λ k. subst (λ x. x < number_of c.args.order) (sym (returns-clause-sum c k)) (add_lt c.args.order _ _)
