use Rattle.std.proofs.Common.{arith, ◌<◌, ◌∙◌, length-set}
use Rattle.mt_cells.specs.Cells.{cells_of}
use Rattle.mt_derive.proofs.PlaceLemmas.{place_below}
use Rattle.mt_table.proofs.StartLemmas.{set_step}
use Rattle.mt_table.proofs.work.set_to_axioms.Goals as goal

pub get-node-requires : goal.get-node-requires
get-node-requires c =
    let x = c.requires.axioms c.loop-n.n (omega (arith, c.loop-n-test.true, c.cells-n-end.ensures)) in
    place_below c.args.nodes.now.list c.loop-n.n x.3.0 x.3.1

pub loop-n-preserved : goal.loop-n-preserved
loop-n-preserved c =
    let below : c.loop-n.n < cells_of c.args.bounds = omega (arith, c.loop-n-test.true, c.cells-n-end.ensures) in
    let old = c.loop-n.invariant in (
      length-set c.loop-n.values.items c.loop-n.n c.get-node.result.k ∙ old.0,
      length-set c.loop-n.node_numbers.items c.loop-n.n c.loop-n.n ∙ old.1,
      length-set c.loop-n.flags.items c.loop-n.n _ ∙ old.2,
      set_step c.args.nodes.now.list c.loop-n.values.items c.loop-n.node_numbers.items c.loop-n.flags.items c.loop-n.n c.get-node.result
          (omega (arith, below, old.0)) (omega (arith, below, old.1)) (omega (arith, below, old.2)) c.get-node.ensures.place old.3,
    )
