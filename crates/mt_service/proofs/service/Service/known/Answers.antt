use Rattle.std.proofs.Common.{arith, ◌-◌}
use Rattle.mt_derive.specs.Events.{imports_of}
use Rattle.mt_derive.proofs.PlaceLemmas.{place_below}
use Rattle.mt_service.proofs.service.Service.known.Goals as goal

pub same-requires-clause-to : goal.same-requires-clause-to
same-requires-clause-to c =
    rw (c.imports-imports.ensures.events, c.self.view_is)
    (omega (arith, place_below (imports_of c.args.self.now.events) (c.args.number - 1) c.requires.claim c.requires.place.1, c.requires.place.0))
