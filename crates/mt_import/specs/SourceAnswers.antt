-- What the reader of the source line answers.
use Rattle.std.specs.Prelude.{ℕ, List}
use Rattle.mt_import.specs.declared.source_line.SourceLine.{SourceLine}
use Rattle.mt_import.specs.declared.source_line.SourceLine.TheVariants.{Absent, Refused, Found}
use Rattle.mt_import.specs.Sources.{StartsSource, IsBadSource, IsSourceLine}

-- the line is what the answer says
abbrev pub IsSourceAnswer : List ℕ → SourceLine → Type 0
IsSourceAnswer line Absent = ¬ StartsSource line
IsSourceAnswer line Refused = IsBadSource line
IsSourceAnswer line (Found note) = IsSourceLine line note
