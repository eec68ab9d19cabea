use Rattle.std.proofs.Common.{subst}
use Rattle.mt_system.specs.Statements.{statement_of}
use Rattle.mt_derive.specs.Events.{imports_of}
use Rattle.mt_derive.specs.Imports.{IsImport}
use Rattle.mt_derive.proofs.PlaceLemmas.{place_same}
use Rattle.mt_derive.proofs.imports.Imports.same.Goals as goal

pub returns : goal.returns
returns c = (
  λ h. subst (IsImport (imports_of c.args.self.now.events) c.args.n) (c.are_same.ensures.0 h) c.get.ensures.place,
  λ h. c.are_same.ensures.1 (place_same (imports_of c.args.self.now.events) _ (statement_of c.get.result.now) (statement_of c.args.claim.now) c.get.ensures.place.1 h.1),
)
