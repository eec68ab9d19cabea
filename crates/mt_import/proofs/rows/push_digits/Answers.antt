use Rattle.std.proofs.Common.{◌≤◌, not, sym}
use Rattle.std.proofs.lemmas.Bool.{not_from_false}
use Rattle.mt_import.specs.Lines.{is_blank}
use Rattle.mt_import.proofs.RowLemmas.{All-filter_at}
use Rattle.mt_import.proofs.rows.push_digits.Goals as goal

pub overflow_sub-byte : goal.overflow_sub-byte
overflow_sub-byte c =
    All-filter_at (λ b. 48 ≤ b) (λ b. not (is_blank b)) c.args.line.now c.loop-byte.byte-index c.requires.row c.loop-byte-test.true (not_from_false _ (sym c.if-not-is_blank.ensures))
