use Rattle.std.proofs.Common.{◌≡◌, ◌+◌, ◌^◌, ◌<◌, length, get_or, arith, ap, ◌∙◌, length-set}
use Rattle.std.proofs.lemmas.List.{get_or_read}
use Rattle.mt_linear.specs.Field.{number_of}
use Rattle.mt_linear.proofs.FieldLaws.{number_pos}
use Rattle.mt_linear.proofs.Writes.{set_rest, set_below}
use Rattle.mt_poly.specs.CoprimeLists.{number_by}
use Rattle.mt_poly.proofs.NumberLemmas.{carry_step, count_step, number_push}
use Rattle.mt_poly.proofs.polynomials.counted_up.Goals as goal

pub loop-i-preserved : goal.loop-i-preserved
loop-i-preserved c =
    let q = number_of c.args.order in
    let xs = c.loop-i.digits.items in
    let l : c.loop-i.i < length xs = omega arith in
    let read : c.index.result.now ≡ get_or xs c.loop-i.i 0 = get_or_read xs c.loop-i.i c.index.result.now l c.index.ensures 0 in
    let digit : get_or xs c.loop-i.i 0 < q = c.loop-i.invariant.elements c.loop-i.i in
    record {
      base = c.loop-i.invariant.base;
      size = length-set xs c.loop-i.i 0 ∙ c.loop-i.invariant.size;
      carry = carry_step q xs c.loop-i.i c.index.result.now (number_by q c.args.digits.items + 1) l c.loop-i.invariant.carry read (omega arith);
      rest = λ k g. set_rest xs c.loop-i.i 0 k g ∙ c.loop-i.invariant.rest k (omega arith);
      elements = set_below xs c.loop-i.i 0 q c.loop-i.invariant.elements (number_pos c.args.order);
    }

pub returns-then-next-number-clause-number : goal.returns-then-next-number-clause-number
returns-then-next-number-clause-number c =
    let xs = c.loop-i.digits.items in
    let l : c.loop-i.i < length xs = omega arith in
    count_step (number_of c.args.order) xs c.loop-i.i c.index.result.now (number_by (number_of c.args.order) c.args.digits.items + 1) l c.loop-i.invariant.carry
    (get_or_read xs c.loop-i.i c.index.result.now l c.index.ensures 0)

pub returns-clause-number : goal.returns-clause-number
returns-clause-number c =
    let q = number_of c.args.order in
    let xs = c.loop-i.digits.items in
    let whole : q ^ c.loop-i.i ≡ q ^ length xs = ap (λ k. q ^ k) (omega arith) in
    rw c.in_ok-push.ensures.items (omega (arith, number_push q xs 1))
