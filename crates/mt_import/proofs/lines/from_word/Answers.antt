use Rattle.std.proofs.Common.{sym}
use Rattle.std.proofs.lemmas.List.{take_rest}
use Rattle.mt_import.proofs.LineLemmas.{from_word-none, from_word-start}
use Rattle.mt_import.proofs.lines.from_word.Goals as goal

pub returns-in-Some : goal.returns-in-Some
returns-in-Some c =
    let line = c.args.line.now in
    let start = c.in-Some.start in
    let from = c.in-Some.ensures in
    rw (take_rest line start) (sym (from_word-start line start from.0 from.1 from.2))

pub returns-in-None : goal.returns-in-None
returns-in-None c = sym (from_word-none c.args.line.now c.in-None.ensures)
