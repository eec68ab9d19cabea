use Rattle.std.proofs.Common.{◌≡◌, ℕ, ◌+◌, List, length}
use Rattle.mt_import.proofs.ReadingLemmas.{TakesBlanks}
use Rattle.mt_import.proofs.import_text.read_end.Given as goal

abbrev pub invariant-loop-line : goal.invariant-loop-line
invariant-loop-line l = (blanks : List (List ℕ)) × TakesBlanks l.text l.rest blanks × (l.number ≡ l.first + length blanks)

abbrev pub decreases-loop-line : goal.decreases-loop-line
decreases-loop-line l = length l.rest
