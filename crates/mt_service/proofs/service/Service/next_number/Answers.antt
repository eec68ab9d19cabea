use Rattle.std.proofs.Common.{arith}
use Rattle.mt_service.proofs.AcceptLemmas.{number_fits}
use Rattle.mt_service.proofs.service.Service.next_number.Goals as goal

pub overflow_add-result : goal.overflow_add-result
overflow_add-result c =
    omega (arith, number_fits c.imports.result.now.bounds c.imports.result.now.events c.events.ensures.follow, c.events.ensures.count)
