use Rattle.mt_table.proofs.LawLemmas.{values_closed}
use Rattle.mt_table.proofs.laws.closed.Goals as goal

pub returns : goal.returns
returns c = values_closed
