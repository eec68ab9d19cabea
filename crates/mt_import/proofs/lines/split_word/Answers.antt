use Rattle.std.proofs.Common.{◌≡◌, ◌<◌, false, add-zero, length, get_or, drop, ◌∙◌, arith}
use Rattle.std.proofs.lemmas.List.{take_rest, get_or-drop, length-drop}
use Rattle.mt_import.specs.Lines.{is_blank}
use Rattle.mt_import.proofs.LineLemmas.{words_of-none, words_of-start, words_of-word, words_of-last}
use Rattle.mt_import.proofs.lines.split_word.Goals as goal

pub returns-in_err-line : goal.returns-in_err-line
returns-in_err-line c = rw c.from_residual.ensures (words_of-none c.args.line.now c.in_err-line.ensures)

pub returns-in-Some : goal.returns-in-Some
returns-in-Some c =
    let line = c.args.line.now in
    let start = c.in_ok-line.field-0 in
    let from = c.in_ok-line.ensures in
    let rest = drop start line in
    let word = rw (take_rest line start) at c.in-Some.ensures in
    let some : 0 < length rest = omega (arith, from.0, length-drop start line) in
    let first : is_blank (get_or rest 0 0) ≡ false = rw (get_or-drop start line 0 0, add-zero start) from.1 in
    rw (take_rest line start, take_rest rest c.in-Some.end)
    (words_of-start line start from.2 ∙ words_of-word rest c.in-Some.end some first word.0 word.1 word.2)

pub returns-in-None : goal.returns-in-None
returns-in-None c =
    let line = c.args.line.now in
    let start = c.in_ok-line.field-0 in
    let from = c.in_ok-line.ensures in
    let rest = drop start line in
    let word = rw (take_rest line start) at c.in-None.ensures in
    let some : 0 < length rest = omega (arith, from.0, length-drop start line) in
    rw (take_rest line start) (words_of-start line start from.2 ∙ words_of-last rest some word)
