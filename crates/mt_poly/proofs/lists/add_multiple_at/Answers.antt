use Rattle.std.proofs.Common.{ℕ, ◌+◌, inl, inr, get_or, sym, ap, ◌∙◌, arith}
use Rattle.std.proofs.lemmas.Bool.{cases_lt}
use Rattle.std.proofs.lemmas.List.{get_or_past}
use Rattle.mt_linear.specs.Field.{add_of, mul_of}
use Rattle.mt_linear.proofs.FieldLaws.{add_zero, mul_zero}
use Rattle.mt_poly.proofs.lists.add_multiple_at.Goals as goal

pub returns-clause-sum : goal.returns-clause-sum
returns-clause-sum c k =
    let o = c.args.order in
    let x : ℕ = get_or c.args.target.now (c.args.place + k) 0 in
    elim (cases_lt k c.loop-i.i) [
      | inl l ↦ c.loop-i.invariant.done k l
      | inr l ↦
          c.loop-i.invariant.rest (c.args.place + k) (omega arith)
          ∙ sym (ap (λ y. add_of o x (mul_of o c.args.factor y)) (get_or_past c.args.source.now k 0 (omega arith))
          ∙ ap (add_of o x) (mul_zero o c.args.factor)
          ∙ add_zero o x (c.requires.target_in (c.args.place + k)))
    ]
