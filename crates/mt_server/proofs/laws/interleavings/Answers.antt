use Rattle.mt_server.proofs.InterleavingLemmas.{one_history}
use Rattle.mt_server.proofs.laws.interleavings.Goals as goal

pub returns : goal.returns
returns c = one_history
