use Rattle.std.proofs.Common.{sym, ap, ◌∙◌}
use Rattle.mt_import.specs.Lines.{to_word}
use Rattle.mt_import.proofs.LineLemmas.{to_word-blank, to_word-mark}
use Rattle.mt_import.proofs.lines.to_word.Goals as goal

pub returns-then-not-is_blank : goal.returns-then-not-is_blank
returns-then-not-is_blank c =
    let cut = c.in-Some.ensures.cases.0 in
    cut ∙ sym (to_word-mark c.in-Some.prefix.now c.in-Some.last.now (sym c.if-not-is_blank.ensures)) ∙ ap to_word (sym cut) ∙ c.loop-last.invariant

pub loop-last-preserved : goal.loop-last-preserved
loop-last-preserved c =
    sym (to_word-blank c.in-Some.prefix.now c.in-Some.last.now (sym c.if-not-is_blank.ensures)) ∙ ap to_word (sym c.in-Some.ensures.cases.0) ∙ c.loop-last.invariant
