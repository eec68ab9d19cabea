-- What is written to the output.
use Rattle.std.specs.Prelude.{List, ℕ, Option, Ok, Err}
use Rattle.mt_io.specs.Streams.{Appends}

-- these bytes were appended, where the output tells them
abbrev pub Wrote : Option (List ℕ) → Option (List ℕ) → List ℕ → Type 0
Wrote before after bytes = Appends {T = Unit {0}} {E = Unit {0}} before after (Ok tt) bytes

-- a prefix of these bytes was appended, where the output tells them
abbrev pub WrotePrefix : Option (List ℕ) → Option (List ℕ) → List ℕ → Type 0
WrotePrefix before after bytes = Appends {T = Unit {0}} {E = Unit {0}} before after (Err tt) bytes
