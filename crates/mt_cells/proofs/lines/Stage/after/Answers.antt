use Rattle.mt_cells.proofs.SpotLemmas.{next_late, next_none}
use Rattle.mt_cells.proofs.lines.Stage.after.Goals as goal

pub returns-clause-later : goal.returns-clause-later
returns-clause-later c = rw c.of_rule.ensures (next_late c.args.rule c.following.result c.following.ensures)

pub returns-clause-none : goal.returns-clause-none
returns-clause-none c = rw c.of_rule.ensures (next_none c.args.rule c.following.result c.following.ensures)
