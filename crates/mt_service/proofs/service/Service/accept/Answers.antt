use Rattle.mt_service.proofs.KeptLemmas.{next_of, put_refused, kept_refused, put_event, kept_event}
use Rattle.mt_service.proofs.TellLemmas.{told_nothing}
use Rattle.mt_service.proofs.service.Service.accept.Goals as goal

pub put-requires : goal.put-requires
put-requires g c = next_of c.args.self.now.bounds _ c.args.self.now.events c.next_number.result c.next_number.ensures.number c.requires.kept

pub returns-in-Err-Fault-clause-put : goal.returns-in-Err-Fault-clause-put
returns-in-Err-Fault-clause-put g c = put_refused _ _ _ _ c.args.self.now.events c.in-Err-Fault.field-0 _ c.in-Err-Fault.ensures.records

pub returns-in-Err-Memory-clause-put : goal.returns-in-Err-Memory-clause-put
returns-in-Err-Memory-clause-put g c = put_refused _ _ _ _ c.args.self.now.events c.in-Err-Memory.field-0 _ c.in-Err-Memory.ensures.records

pub returns-in-Err-Fault-clause-kept : goal.returns-in-Err-Fault-clause-kept
returns-in-Err-Fault-clause-kept g c =
    kept_refused _ _ c.args.self.now.bounds _ _ c.args.self.now.events c.in-Err-Fault.field-0 _ c.requires.kept c.in-Err-Fault.ensures.records

pub returns-in-Err-Memory-clause-kept : goal.returns-in-Err-Memory-clause-kept
returns-in-Err-Memory-clause-kept g c =
    kept_refused _ _ c.args.self.now.bounds _ _ c.args.self.now.events c.in-Err-Memory.field-0 _ c.requires.kept c.in-Err-Memory.ensures.records

pub returns-in-Err-Fault-clause-told : goal.returns-in-Err-Fault-clause-told
returns-in-Err-Fault-clause-told g c = told_nothing c.args.self.now.bounds c.args.self.now.rules _ _ c.args.self.now.events c.args.feeds.now.items

pub returns-in-Err-Memory-clause-told : goal.returns-in-Err-Memory-clause-told
returns-in-Err-Memory-clause-told g c = told_nothing c.args.self.now.bounds c.args.self.now.rules _ _ c.args.self.now.events c.args.feeds.now.items

pub returns-clause-put : goal.returns-clause-put
returns-clause-put g c =
    put_event _ _ _ _ c.args.self.now.events c.requires.accepted.0 c.args.named.now.event c.args.named.now.name c.in-Ok.field-0 c.append-applied.new.self.events
    c.requires.accepted.2 c.in-Ok.ensures.records c.append-applied.ensures.appended.list

pub returns-clause-kept : goal.returns-clause-kept
returns-clause-kept g c =
    rw c.append-applied.ensures.bounds
    (kept_event _ _ c.args.self.now.bounds _ _ c.args.self.now.events c.requires.accepted.0 c.args.named.now.event c.args.named.now.name c.in-Ok.field-0 c.append-applied.new.self.events
    c.next_number.ensures.follow c.requires.accepted.1 c.requires.accepted.2 c.in-Ok.ensures.reads c.requires.kept c.in-Ok.ensures.records c.append-applied.ensures.appended.list)

pub returns-clause-told : goal.returns-clause-told
returns-clause-told g c =
    let told = rw c.self.view_is at c.tell_all.ensures in
    let appended = c.append-applied.ensures in
    rw (appended.bounds, appended.rules) at (told c.args.self.now.events c.args.named.now.event appended.appended.list)
