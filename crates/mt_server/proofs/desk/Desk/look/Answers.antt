use Rattle.mt_server.proofs.DeskLemmas.{look_leads, look_partly}
use Rattle.mt_server.proofs.desk.Desk.look.Goals as goal

pub returns-clause-happens : goal.returns-clause-happens
returns-clause-happens g c =
    let h = c.args.self.now.history in
    look_leads h.publication.base.bounds h.publication.base.rules c.look.result h.accepted h.published _ _ c.look.ensures.accepted c.look.ensures.published

pub returns-clause-partly : goal.returns-clause-partly
returns-clause-partly g c =
    let h = c.args.self.now.history in
    look_partly h.publication.base.bounds h.publication.base.rules c.look.result h.accepted h.published _ _ c.look.ensures.accepted c.look.ensures.memory
