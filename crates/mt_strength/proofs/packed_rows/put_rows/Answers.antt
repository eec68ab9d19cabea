use Rattle.std.proofs.Common.{◌≡◌, ◌+◌, ◌-◌, ◌∙◌, arith, subst}
use Rattle.mt_strength.specs.PackedRows.{IsPacked}
use Rattle.mt_strength.proofs.PackedLemmas.{rows_put, more_rows, coordinate_packed}
use Rattle.mt_strength.proofs.packed_rows.put_rows.Goals as goal

pub loop-j-preserved : goal.loop-j-preserved
loop-j-preserved c = record {
  size = c.put_row.ensures.size ∙ c.loop-j.invariant.size;
  packed = rows_put c.args.system.now c.args.width c.args.each (c.args.i - 1) c.loop-j.j c.loop-j.rows c.put_row.new.rows c.lanes_of-v.result c.loop-j.invariant.packed c.put_row.ensures.before c.loop-j-test.true;
  more = more_rows c.args.system.now c.args.width c.args.each (c.args.i - 1) c.loop-j.j c.loop-j.rows c.put_row.new.rows c.lanes_of-v.result c.row-row.result.now c.order.result
      c.loop-j.invariant.more c.put_row.ensures.before c.put_row.ensures.done c.lanes_of-v.ensures c.order.ensures.value c.row-row.ensures.value;
}

pub returns-clause-packed : goal.returns-clause-packed
returns-clause-packed c =
    let j = c.loop-j.auto.j-end in
    let l = c.loop-j-test.false in
    let from = c.requires.coordinate_from in
    let e : c.args.i - 1 + 1 ≡ c.args.i = omega arith in
    subst (λ n. IsPacked c.args.system.now c.args.width c.args.each n c.loop-j.rows) e
    (coordinate_packed c.args.system.now c.args.width c.args.each (c.args.i - 1) c.loop-j.rows c.loop-j.invariant.packed (λ n m. c.loop-j.invariant.more n (omega arith)))
