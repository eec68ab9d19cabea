-- What the reader of events answers.
use Rattle.std.specs.Prelude.{ℕ, List, Result, Ok, Err}
use Rattle.mt_system.specs.Statements.{statement_of}
use Rattle.mt_import.specs.declared.events.EventText.{EventText}
use Rattle.mt_import.specs.declared.events.EventText.TheVariants as text
use Rattle.mt_import.specs.declared.events.Said.{Said}
use Rattle.mt_import.specs.declared.events.Said.TheVariants as said
use Rattle.mt_import.specs.declared.refusals.ImportRefused.{ImportRefused}
use Rattle.mt_import.specs.declared.refusals.ImportRefused.TheVariants.{Form, Memory}
use Rattle.mt_import.specs.Texts.{IsImport}
use Rattle.mt_import.specs.Canonical.{IsTextOf}
use Rattle.mt_import.specs.Withdrawals.{IsWithdrawal}
use Rattle.mt_import.specs.Events.{IsEventRefusal}

-- the text is the event that was found
abbrev pub IsEventText : List ℕ → EventText → Type 0
IsEventText bytes (text.Import t) = IsImport bytes t.header t.note t.digits
IsEventText bytes (text.Withdraw name) = IsWithdrawal bytes name

-- the text says this, or why it says nothing
abbrev pub IsEventReading : List ℕ → Result Said ImportRefused → Type 0
IsEventReading bytes (Ok (said.Claim c)) = IsTextOf bytes (statement_of c)
IsEventReading bytes (Ok (said.Withdraw name)) = IsWithdrawal bytes name
IsEventReading bytes (Err (Form f)) = IsEventRefusal bytes f
IsEventReading bytes (Err Memory) = Unit {0}
