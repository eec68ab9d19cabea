use Rattle.mt_table.proofs.LineLemmas.{part_at}
use Rattle.mt_table.proofs.work.Work.run_stage.Goals as goal

pub run_line-requires-clause-right : goal.run_line-requires-clause-right
run_line-requires-clause-right g c = part_at c.args.self.now c.args.cell c.args.line.now _ c.requires.stage c.requires.right

pub returns-clause-tried : goal.returns-clause-tried
returns-clause-tried g c = rw c.requires.stage c.run_line.ensures.tried

pub returns-clause-used : goal.returns-clause-used
returns-clause-used g c = rw c.requires.stage c.run_line.ensures.used
