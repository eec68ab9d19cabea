use Rattle.std.proofs.Common.{◌+◌, ◌<◌, ◌≤◌, take, All}
use Rattle.mt_import.specs.Lines.{without_blanks}
use Rattle.mt_import.proofs.rows.are_digits.Given as goal

abbrev pub invariant-loop-byte : goal.invariant-loop-byte
invariant-loop-byte l = All (λ b. (48 ≤ b) × (b < 48 + l.q)) (without_blanks (take l.byte-index l.line))
