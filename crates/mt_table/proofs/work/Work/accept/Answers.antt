use Rattle.std.proofs.Common.{le_trans}
use Rattle.mt_table.proofs.StartLemmas.{columns_high}
use Rattle.mt_table.proofs.StepLemmas.{tries_raised}
use Rattle.mt_table.proofs.FixedLemmas.{accepts_raised}
use Rattle.mt_table.proofs.WorkLemmas.{propagated_put}
use Rattle.mt_table.proofs.work.Work.accept.Goals as goal

pub put-requires-clause-right : goal.put-requires-clause-right
put-requires-clause-right g c = ((c.args.self.now.bounds, c.requires.inside), rw c.requires.import.1 (record {}))

pub put-requires-clause-high : goal.put-requires-clause-high
put-requires-clause-high g c = le_trans c.requires.within (columns_high c.args.self.now.bounds c.args.node.cell c.requires.inside)

pub propagate-requires : goal.propagate-requires
propagate-requires g c = λ i k _.
    propagated_put c.args.self.now c.put.new.self c.args.node i c.requires.inside (rw c.value.ensures.value at c.if-node-value.false) c.put.ensures (c.requires.done i (rw (c.put.ensures.bounds, c.put.ensures.rules) at k))

pub returns-clause-accepts : goal.returns-clause-accepts
returns-clause-accepts g c = accepts_raised c.args.self.now c.put.new.self c.propagate.new.self c.args.node c.requires.inside (rw c.value.ensures.value at c.if-node-value.false) c.put.ensures c.propagate.ensures.propagates

pub returns-clause-tries : goal.returns-clause-tries
returns-clause-tries g c = tries_raised c.args.self.now c.put.new.self c.propagate.new.self c.args.node c.propagate.result c.requires.inside (rw c.value.ensures.value at c.if-node-value.false) c.requires.idle c.put.ensures c.propagate.ensures.pays
