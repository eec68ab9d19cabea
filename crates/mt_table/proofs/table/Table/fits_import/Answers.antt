use Rattle.mt_table.proofs.ListLemmas.{named_apart}
use Rattle.mt_table.proofs.table.Table.fits_import.Goals as goal

pub returns-in-Some : goal.returns-in-Some
returns-in-Some c = (λ h. absurd cc, λ h. absurd (named_apart _ _ _ c.in-Some.ensures (rw (← c.self.view_is, ← c.claim-claim.ensures.value) at h.2)))
