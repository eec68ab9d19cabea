use Rattle.mt_server.proofs.OfficeLemmas.{imported_front}
use Rattle.mt_server.proofs.shared.NamedHistory.import.Goals as goal

pub returns : goal.returns
returns g c = imported_front _ _ c.import.result.front _ _ _ c.import.result.outcome _ _ c.self.invariant c.import.ensures.front c.import.ensures.step c.import.ensures.memory
