use Rattle.std.proofs.Common.{refl, ◌%◌, arith, mod-lt}
use Rattle.mt_linear.specs.Field.{number_of}
use Rattle.mt_linear.proofs.FieldLaws.{number_pos}
use Rattle.mt_poly.proofs.ListLemmas.{push_elements}
use Rattle.mt_poly.proofs.NumberLemmas.{digit_step, digit_lead}
use Rattle.mt_poly.proofs.polynomials.digits_of.Goals as goal

pub loop-rest-preserved : goal.loop-rest-preserved
loop-rest-preserved c =
    let xs = c.loop-rest.digits.items in
    let r = c.loop-rest.rest in
    let q = number_of c.args.order in
    let b = c.loop-rest.invariant.base in
    rw c.in_ok-push.ensures.items (rw b (record {
      base = refl;
      sum = digit_step q xs r c.args.n c.loop-rest.invariant.sum;
      elements = push_elements c.args.order xs (r % q) c.loop-rest.invariant.elements (mod-lt r (number_pos c.args.order));
      lead = λ e h. digit_lead q xs r (omega arith) e;
    }))
