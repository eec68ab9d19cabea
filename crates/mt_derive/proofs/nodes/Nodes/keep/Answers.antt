use Rattle.std.proofs.Common.{arith, length-take}
use Rattle.mt_derive.specs.declared.nodes.Node.{Node}
use Rattle.mt_derive.proofs.NodeLemmas.{all_right-take}
use Rattle.mt_derive.proofs.nodes.Nodes.keep.Goals as goal

pub invariant_of-self : goal.invariant_of-self
invariant_of-self c =
    rw c.truncate.ensures.items (
      all_right-take c.self.inside.list.items c.args.len c.self.invariant.0,
      omega (arith, length-take {A = Node} c.args.len, c.self.invariant.1),
      omega (arith, c.truncate.ensures.capacity, c.self.invariant.2),
      c.self.invariant.3,
    )
