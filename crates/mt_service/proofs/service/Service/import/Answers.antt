use Rattle.mt_service.proofs.AcceptLemmas.{declined_step, accepted_step}
use Rattle.mt_service.proofs.KeptLemmas.{put_nothing}
use Rattle.mt_service.proofs.TellLemmas.{told_nothing}
use Rattle.mt_service.proofs.service.Service.import.Goals as goal

pub accept-requires-clause-accepted : goal.accept-requires-clause-accepted
accept-requires-clause-accepted g c = (c.args.text.now, c.in-Ok.ensures.0, c.in-Ok.ensures.1)

pub returns-in-Ok-clause-step : goal.returns-in-Ok-clause-step
returns-in-Ok-clause-step g c =
    accepted_step c.args.self.now.bounds c.args.self.now.rules c.args.self.now.events c.args.text.now c.in-Ok.named.event c.in-Ok.named.name c.accept.result c.accept.new.self.events
    c.in-Ok.ensures.0 c.in-Ok.ensures.1 c.accept.ensures.ends

pub returns-in-Err-clause-step : goal.returns-in-Err-clause-step
returns-in-Err-clause-step g c =
    declined_step c.args.self.now.bounds c.args.self.now.rules c.args.self.now.events c.args.text.now c.in-Err.outcome c.in-Err.ensures

pub returns-in-Err-clause-put : goal.returns-in-Err-clause-put
returns-in-Err-clause-put g c = put_nothing _ c.args.self.now.events

pub returns-in-Err-clause-told : goal.returns-in-Err-clause-told
returns-in-Err-clause-told g c = told_nothing c.args.self.now.bounds c.args.self.now.rules _ _ c.args.self.now.events c.args.feeds.now.items
