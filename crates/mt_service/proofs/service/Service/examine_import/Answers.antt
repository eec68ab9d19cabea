use Rattle.mt_system.specs.Statements.{statement_of}
use Rattle.mt_service.proofs.AcceptLemmas.{compared}
use Rattle.mt_service.proofs.service.Service.examine_import.Goals as goal

pub returns-in-Ok-Ok : goal.returns-in-Ok-Ok
returns-in-Ok-Ok c =
    compared c.args.self.now.bounds c.args.self.now.events c.args.text.now (statement_of c.in-Ok-Ok.claim)
    (rw (c.in-Ok-Ok.field-0-is, c.bounds.ensures, c.self.view_is) at c.in-Ok-Ok.ensures) c.compare.result c.compare.ensures
