use Rattle.std.proofs.Common.{◌+◌, sym, arith}
use Rattle.std.proofs.lemmas.Bool.{eqb-false}
use Rattle.std.proofs.lemmas.List.{take_rest}
use Rattle.mt_import.proofs.LineLemmas.{lines_of-first, lines_of-last}
use Rattle.mt_import.proofs.lines.split_line.Goals as goal

pub returns-in-Some-clause-lines : goal.returns-in-Some-clause-lines
returns-in-Some-clause-lines c =
    let text = c.args.text.now in
    let end = c.in-Some.end in
    let found = c.in-Some.ensures in
    rw (c.trim_return.ensures, take_rest text (end + 1)) (lines_of-first text end found.0 found.1 found.2)

pub returns-in-None-clause-lines : goal.returns-in-None-clause-lines
returns-in-None-clause-lines c =
    let some = eqb-false _ _ (sym c.if-is_empty.ensures) in
    rw c.trim_return-in-None.ensures (lines_of-last c.args.text.now (omega arith) c.in-None.ensures)
