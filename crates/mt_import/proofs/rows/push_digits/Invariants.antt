use Rattle.std.proofs.Common.{◌≡◌, ◌++◌, take}
use Rattle.mt_import.specs.Texts.{digits_of}
use Rattle.mt_import.proofs.rows.push_digits.Given as goal

abbrev pub invariant-loop-byte : goal.invariant-loop-byte
invariant-loop-byte l = l.digits.items ≡ l.initial.digits.items ++ digits_of (take l.byte-index l.line)
