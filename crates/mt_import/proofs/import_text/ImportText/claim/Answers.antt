use Rattle.std.proofs.Common.{◌*◌, ◌<◌, List, ℕ, length, All, ap, ◌∙◌, subst, sym}
use Rattle.mt_import.specs.Reading.{row_lines}
use Rattle.mt_import.proofs.ReadingLemmas.{length-digits, small_digits}
use Rattle.mt_import.proofs.import_text.ImportText.claim.Goals as goal

pub claim_of-requires-clause-size : goal.claim_of-requires-clause-size
claim_of-requires-clause-size c =
    let h = c.self.inside.header in
    ap (λ (ds : List ℕ). length ds) c.in_ok-digits.ensures ∙ length-digits h.q h.m (row_lines h c.self.inside.rows.now) c.self.invariant.each ∙ ap (λ n. n * h.m) c.self.invariant.number

pub claim_of-requires-clause-elements : goal.claim_of-requires-clause-elements
claim_of-requires-clause-elements c =
    let h = c.self.inside.header in
    subst (λ (ds : List ℕ). All (λ d. d < h.q) ds) (sym c.in_ok-digits.ensures) (small_digits h.q h.m (row_lines h c.self.inside.rows.now) c.self.invariant.each)
