use Rattle.std.proofs.Common.{◌∙◌, sym, ap, eqb, eq-eqb}
use Rattle.std.proofs.lemmas.Bool.{ne_eqb, cond-true, cond-false}
use Rattle.mt_import.specs.Lines.{without_return}
use Rattle.mt_import.proofs.LineLemmas.{without_return-push}
use Rattle.mt_import.proofs.lines.trim_return.Goals as goal

pub returns-then-last-eq13 : goal.returns-then-last-eq13
returns-then-last-eq13 c =
    let last = c.in-Some.last.now in
    sym (ap without_return c.in-Some.ensures.cases.0 ∙ without_return-push c.in-Some.prefix.now last ∙ cond-true (eqb last 13) _ _ (eq-eqb last 13 c.if-last-eq13.true))

pub returns-else-last-eq13 : goal.returns-else-last-eq13
returns-else-last-eq13 c =
    let last = c.in-Some.last.now in
    sym (ap without_return c.in-Some.ensures.cases.0 ∙ without_return-push c.in-Some.prefix.now last ∙ cond-false (eqb last 13) _ _ (ne_eqb last 13 c.if-last-eq13.false) ∙ sym c.in-Some.ensures.cases.0)
