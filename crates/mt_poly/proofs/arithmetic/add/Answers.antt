use Rattle.std.proofs.Common.{get_or, sym, ap, ◌∙◌, mod-lt}
use Rattle.std.proofs.lemmas.Result.{IfOk-weaker}
use Rattle.mt_linear.specs.Field.{add_of}
use Rattle.mt_linear.proofs.FieldLaws.{number_pos, mul_comm, mul_one, add_mod_right, mul_mod_right}
use Rattle.mt_poly.proofs.arithmetic.add.Goals as goal

pub returns-clause-sum : goal.returns-clause-sum
returns-clause-sum c =
    let o = c.args.a.now.order in
    let xs = c.args.a.now.coefficients in
    let ys = c.args.b.now.coefficients in
    IfOk-weaker c.combined.result _ _
    (λ r e n.
    e n
    ∙ ap (add_of o (get_or xs n 0)) (sym (mul_mod_right o 1 (get_or ys n 0)) ∙ mul_comm o 1 _ ∙ mul_one o _ (mod-lt (get_or ys n 0) (number_pos o)))
    ∙ add_mod_right o (get_or xs n 0) (get_or ys n 0))
    c.combined.ensures.sum
