use Rattle.std.proofs.Common.{◌≡◌, ◌-◌, sum, ap, ◌∙◌, arith}
use Rattle.mt_system.specs.Rows.{rows_by}
use Rattle.mt_strength.specs.Walks.{digits_in}
use Rattle.mt_strength.proofs.FallingLemmas.{found_size, found_sum, found_some, least_found}
use Rattle.mt_strength.proofs.searches.search.Goals as goal

pub fewer-init : goal.fewer-init
fewer-init c =
    let R = rows_by (digits_in c.args.order c.args.rows.now c.args.each c.args.each) in
    record {
      found = found_sum c.args.order R c.args.each c.args.others c.args.each c.args.k c.walk.new.sizes c.if-walk.ensures.found;
      size = found_size c.args.order R c.args.each c.args.others c.args.each c.args.k c.walk.new.sizes c.if-walk.ensures.found;
    }

pub overflow_sub-n : goal.overflow_sub-n
overflow_sub-n c =
    let some = found_some c.args.order (digits_in c.args.order c.args.rows.now c.args.each c.args.each) c.args.each c.args.others c.args.each (sum c.fewer.sizes) c.fewer.sizes c.fewer.invariant.found in
    let e : c.total.result ≡ sum c.fewer.sizes = c.total.ensures ∙ ap sum c.copy_from_slice.ensures.after in
    omega arith

pub returns-then-walk-2-clause-first : goal.returns-then-walk-2-clause-first
returns-then-walk-2-clause-first c =
    least_found c.args.order (rows_by (digits_in c.args.order c.args.rows.now c.args.each c.args.each)) c.args.others c.args.each c.args.k c.total.result c.fewer.sizes c.copy_from_slice.new.self
    c.copy_from_slice.ensures.after c.fewer.invariant.found c.fewer.invariant.size c.total.ensures c.if-walk-2.ensures.independent

pub fewer-smaller : goal.fewer-smaller
fewer-smaller c =
    let R = rows_by (digits_in c.args.order c.args.rows.now c.args.each c.args.each) in
    let some = found_some c.args.order (digits_in c.args.order c.args.rows.now c.args.each c.args.each) c.args.each c.args.others c.args.each (sum c.fewer.sizes) c.fewer.sizes c.fewer.invariant.found in
    let e : c.total.result ≡ sum c.fewer.sizes = c.total.ensures ∙ ap sum c.copy_from_slice.ensures.after in
    let size = found_size c.args.order R c.args.each c.args.others c.args.each (c.total.result - 1) c.walk-in-fewer.new.sizes c.if-walk-2.ensures.found in
    omega arith

pub fewer-preserved : goal.fewer-preserved
fewer-preserved c =
    let R = rows_by (digits_in c.args.order c.args.rows.now c.args.each c.args.each) in
    let e : c.total.result ≡ sum c.fewer.sizes = c.total.ensures ∙ ap sum c.copy_from_slice.ensures.after in
    let within = c.fewer.invariant.size in
    let size = found_size c.args.order R c.args.each c.args.others c.args.each (c.total.result - 1) c.walk-in-fewer.new.sizes c.if-walk-2.ensures.found in
    record {
      found = found_sum c.args.order R c.args.each c.args.others c.args.each (c.total.result - 1) c.walk-in-fewer.new.sizes c.if-walk-2.ensures.found;
      size = omega arith;
    }
