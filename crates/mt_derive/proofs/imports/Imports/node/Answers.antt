use Rattle.std.proofs.Common.{◌≡◌, refl}
use Rattle.mt_system.specs.Statements.{statement_of}
use Rattle.mt_derive.specs.Events.{entry_of, entries_of}
use Rattle.mt_derive.specs.Trees.{entry_at}
use Rattle.mt_derive.proofs.EntryLemmas.{entry_is}
use Rattle.mt_derive.proofs.imports.Imports.node.Goals as goal

-- the claim's cell and k are those of its entry
pub returns : goal.returns
returns c =
    let E = c.args.self.now.events in
    let claim = statement_of c.get-claim.result.now in
    let is : entry_at (entries_of E) c.args.n ≡ entry_of E c.args.n claim = entry_is E c.args.n claim c.requires.from c.get-claim.ensures.place.1 in
    rw (is, c.claimed_cell.ensures) refl
