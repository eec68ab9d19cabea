use Rattle.std.proofs.Common.{◌≡◌, length}
use Rattle.mt_import.specs.Lines.{to_word}
use Rattle.mt_import.proofs.lines.to_word.Given as goal

abbrev pub invariant-loop-last : goal.invariant-loop-last
invariant-loop-last l = to_word l.kept ≡ to_word l.line

abbrev pub decreases-loop-last : goal.decreases-loop-last
decreases-loop-last l = length l.kept
