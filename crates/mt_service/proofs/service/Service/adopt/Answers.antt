use Rattle.mt_service.proofs.AcceptLemmas.{accepted_follows}
use Rattle.mt_service.proofs.service.Service.adopt.Goals as goal

pub append-requires : goal.append-requires
append-requires c = accepted_follows c.args.self.now.bounds c.args.self.now.events c.args.text.now c.in-Ok.named.event c.in-Ok.ensures.0
