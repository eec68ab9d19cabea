use Rattle.std.proofs.Common.{arith}
use Rattle.mt_cells.proofs.SpotLemmas.{inside}
use Rattle.mt_table.proofs.NodeLemmas.{node_right, conclusion_fits}
use Rattle.mt_table.proofs.work.Work.raise.Goals as goal

pub put-requires-clause-inside : goal.put-requires-clause-inside
put-requires-clause-inside c = (inside c.args.self.now.bounds c.args.self.now.rules c.args.instance c.requires.instance).0

pub put-requires-clause-right : goal.put-requires-clause-right
put-requires-clause-right c =
    let v = c.args.self.now in
    let i = c.args.instance in
    rw c.made_by-made.ensures (node_right v i c.args.k c.requires.instance c.requires.concluded (omega (arith, c.requires.higher)))

pub put-requires-clause-within : goal.put-requires-clause-within
put-requires-clause-within c = conclusion_fits c.args.self.now c.args.instance c.args.k c.requires.instance c.requires.concluded
