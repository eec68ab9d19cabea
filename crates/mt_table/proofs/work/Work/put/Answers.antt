use Rattle.std.proofs.Common.{rules, refl, ◌∙◌, length-set}
use Rattle.mt_cells.specs.declared.bounds.TheConstants.{MOST_COLUMNS}
use Rattle.mt_table.proofs.NodeLemmas.{placed_raised, room_before, room_after, none_before, set_high}
use Rattle.mt_table.proofs.work.Work.put.Goals as goal

pub push-requires-clause-room : goal.push-requires-clause-room
push-requires-clause-room c =
    let v = c.args.self.now in
    let node = c.args.node in
    room_before v.bounds v.nodes v.values.items node.cell node.k c.requires.inside v.shaped.0 c.requires.higher c.requires.within v.roomy

pub invariant_of-self-clause-placed : goal.invariant_of-self-clause-placed
invariant_of-self-clause-placed c =
    let v = c.args.self.now in
    let node = c.args.node in
    rw (c.number-n.ensures.value, c.len-latest.ensures, c.push.ensures.list) (placed_raised v.bounds v.nodes.list v.node_numbers.items v.values.items node node.cell node.k c.requires.inside refl refl v.shaped.2 v.shaped.0 v.placed)

pub invariant_of-self-clause-roomy : goal.invariant_of-self-clause-roomy
invariant_of-self-clause-roomy c =
    let v = c.args.self.now in
    let node = c.args.node in
    rw (c.number-n.ensures.value, c.push.ensures.list, c.push.ensures.room) (room_after v.bounds v.nodes v.values.items node.cell node.k node c.requires.inside v.shaped.0 c.requires.higher c.requires.within v.roomy)

pub invariant_of-self-clause-before : goal.invariant_of-self-clause-before
invariant_of-self-clause-before c = none_before c.args.self.now.flags.items c.args.self.now.from c.number-n.result c.min-self.result (search rules) (search rules) c.args.self.now.before

pub invariant_of-self-clause-shaped : goal.invariant_of-self-clause-shaped
invariant_of-self-clause-shaped c =
    let v = c.args.self.now in (
      length-set v.values.items c.number-n.result c.args.node.k ∙ v.shaped.0,
      length-set v.flags.items c.number-n.result _ ∙ v.shaped.1,
      length-set v.node_numbers.items c.number-n.result c.len-latest.result ∙ v.shaped.2,
      set_high v.values.items c.number-n.result c.args.node.k MOST_COLUMNS (rw v.shaped.0 c.number-n.ensures.below) v.shaped.3 c.requires.high,
    )
