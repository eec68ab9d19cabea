use Rattle.mt_service.proofs.OpenLemmas.{records_of}
use Rattle.mt_service.proofs.service.Service.open.Goals as goal

pub returns-in-Err-Fault-clause-opening : goal.returns-in-Err-Fault-clause-opening
returns-in-Err-Fault-clause-opening g c = let some = records_of _ _ _ _ c.in-Err-Fault.ensures.records in (some.0, some.1, tt)

pub returns-in-Err-Memory-clause-opening : goal.returns-in-Err-Memory-clause-opening
returns-in-Err-Memory-clause-opening g c = let some = records_of _ _ _ _ c.in-Err-Memory.ensures.records in (some.0, some.1, tt)
