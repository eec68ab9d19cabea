use Rattle.std.proofs.Common.{arith, ◌≡◌, length}
use Rattle.std.proofs.Math.Logic.{∥∥₁_map}
use Rattle.std.proofs.lemmas.List.{length-take-le}
use Rattle.mt_cells.specs.Cells.{cells_of}
use Rattle.mt_table.specs.Starts.{StartsWithAxioms}
use Rattle.mt_table.proofs.NodeLemmas.{cells_few}
use Rattle.mt_table.proofs.StartLemmas.{starts_kept, set_most, set_placed, set_room}
use Rattle.mt_table.proofs.work.Work.restart.Goals as goal

pub keep-requires : goal.keep-requires
keep-requires c = rw c.cells.ensures (cells_few c.args.self.now)

pub set_to_axioms-requires-clause-axioms : goal.set_to_axioms-requires-clause-axioms
set_to_axioms-requires-clause-axioms c = rw (c.keep.ensures.list, c.cells.ensures) (starts_kept c.args.self.now.bounds c.args.self.now.nodes.list (cells_of c.args.self.now.bounds) c.requires)

pub invariant_of-self : goal.invariant_of-self
invariant_of-self c =
    let v = c.args.self.now in
    let b = v.bounds in
    let nodes = c.keep.new.self in
    let new = c.set_to_axioms.new in
    let first : StartsWithAxioms b nodes.list (cells_of b) = rw (c.keep.ensures.list, c.cells.ensures) (starts_kept b v.nodes.list (cells_of b) c.requires) in
    let count : length nodes.list ≡ cells_of b = rw (c.keep.ensures.list, c.cells.ensures) (length-take-le (cells_of b) v.nodes.list (cells_few v)) in
    record {
      shaped = (
        c.set_to_axioms.ensures.values,
        c.set_to_axioms.ensures.flags,
        c.set_to_axioms.ensures.node_numbers,
        set_most b nodes.list new.values.items new.node_numbers.items new.flags.items first c.set_to_axioms.ensures.set c.set_to_axioms.ensures.values,
      );
      before = λ n l. absurd (omega arith);
      placed = set_placed b nodes.list new.values.items new.node_numbers.items new.flags.items first c.set_to_axioms.ensures.set;
      roomy = ∥∥₁_map v.roomy (λ r. set_room b nodes.list new.values.items new.node_numbers.items new.flags.items first c.set_to_axioms.ensures.set nodes.room r.tops r.are
          c.set_to_axioms.ensures.values count (rw c.keep.ensures.room r.whole));
    }

pub returns-clause-start : goal.returns-clause-start
returns-clause-start c =
    let v = c.args.self.now in
    let b = v.bounds in
    record {
      count = rw (c.keep.ensures.list, c.cells.ensures) (length-take-le (cells_of b) v.nodes.list (cells_few v));
      axioms = rw (c.keep.ensures.list, c.cells.ensures) (starts_kept b v.nodes.list (cells_of b) c.requires);
      set = c.set_to_axioms.ensures.set;
    }
