use Rattle.std.proofs.Common.{◌≡◌, ◌++◌, map, take, decimal}
use Rattle.mt_import.specs.Lines.{words_of}
use Rattle.mt_import.specs.HeaderParts.{AreNumbers}
use Rattle.mt_import.proofs.headers.read_numbers.Given as goal

abbrev pub invariant-loop-i : goal.invariant-loop-i
invariant-loop-i l = record {
  numbers : AreNumbers 5 l.numbers;
  words : words_of l.line ≡ map decimal (take l.i l.numbers) ++ words_of l.rest;
}
