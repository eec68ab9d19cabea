use Rattle.std.proofs.Common.{refl, sym, ◌∙◌, inr}
use Rattle.mt_service.proofs.TellLemmas.{same_last}
use Rattle.mt_service.proofs.telling.tell_cell.Goals as goal

pub returns-else-since-version : goal.returns-else-since-version
returns-else-since-version g c = λ E e grown.
    let table = c.args.table.now in
    inr (same_last table.bounds table.rules E e table.events grown c.args.cell c.since.result c.since.ensures (λ x. c.if-since-version.false (x ∙ sym c.version-version.ensures)), refl)
