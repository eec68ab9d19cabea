use Rattle.std.proofs.Common.{◌≡◌, subst}
use Rattle.mt_import.specs.Headers.{IsHeaderLine}
use Rattle.mt_import.proofs.HeaderLemmas.{header_found}
use Rattle.mt_import.proofs.import_text.read_header.Goals as goal

pub returns-clause-only : goal.returns-clause-only
returns-clause-only c = λ h has.
    let read = c.in_ok-line.ensures.lines in
    let lines = has.lines in
    let same : has.line ≡ c.in_ok-line.line.now = cc in
    header_found c.in_ok-line.line.now h (subst (λ l. IsHeaderLine l h) same has.header) c.read_line.result c.read_line.ensures
