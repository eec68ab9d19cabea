use Rattle.mt_system.specs.Statements.{statement_of}
use Rattle.mt_service.proofs.AcceptLemmas.{known_compares}
use Rattle.mt_service.proofs.service.Service.compare.Goals as goal

pub returns-in-Some : goal.returns-in-Some
returns-in-Some c =
    known_compares c.args.self.now.events (statement_of c.args.claim) c.in-Some.number c.known.result (rw (c.imports.ensures.events, c.self.view_is) at c.in-Some.ensures) c.known.ensures
