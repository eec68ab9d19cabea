use Rattle.std.proofs.Common.{sym, subst}
use Rattle.std.proofs.lemmas.Bool.{iff_false}
use Rattle.std.proofs.lemmas.Str.Parse.{parse_plain}
use Rattle.mt_cells.specs.Numbers.{IsPlain}
use Rattle.mt_cells.proofs.NumberLemmas.{own, IsPlain-decimal, number_read}
use Rattle.mt_cells.proofs.numbers.plain_number.Goals as goal

pub returns-then-not-is_plain : goal.returns-then-not-is_plain
returns-then-not-is_plain c = λ n l e.
    iff_false c.is_plain.ensures c.if-not-is_plain.true (subst IsPlain (sym c.as_bytes.ensures.value) (subst IsPlain (sym e) (IsPlain-decimal n l)))

pub returns : goal.returns
returns c =
    let word = c.args.word.now in
    let plain = subst IsPlain c.as_bytes.ensures.value (c.is_plain.ensures.0 c.if-not-is_plain.false) in
    rw c.ok.ensures.value (number_read word c.parse.result plain (parse_plain own 64 word c.parse.result c.parse.ensures.value.0 plain.unsigned))
