use Rattle.mt_server.proofs.DeskLemmas.{lead_some, lead_none}
use Rattle.mt_server.proofs.desk.Desk.import.Goals as goal

pub returns-clause-happens : goal.returns-clause-happens
returns-clause-happens g c = lead_some _ _ _ c.import.result.front c.import.result.outcome _ c.args.self.now.history.published _ _ _ c.import.ensures.front c.import.ensures.step

pub returns-clause-partly : goal.returns-clause-partly
returns-clause-partly g c = lead_none _ _ _ c.import.result.front _ _ _ _ _ c.import.ensures.memory
