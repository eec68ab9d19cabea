-- A text has one reading as an event, and the first word decides as what it is read.
use Rattle.std.specs.Prelude.{◌≡◌, ℕ, ◌≤◌, ◌↔◌, List, length}
use Rattle.mt_import.specs.declared.headers.Header.{Header}
use Rattle.mt_import.specs.declared.refusals.FormRefused.{FormRefused}
use Rattle.mt_import.specs.declared.refusals.FormRefused.TheVariants.{TooLong, Line}
use Rattle.mt_import.specs.declared.refusals.Wanted.TheVariants as wanted
use Rattle.mt_import.specs.declared.import_text.TheConstants.{MOST_BYTES}
use Rattle.mt_import.specs.Texts.{IsImport, IsRefusal}
use Rattle.mt_import.specs.Withdrawals.{IsWithdrawal}
use Rattle.mt_import.specs.Events.{IsSomeImport, IsEvent, SaysWithdraw, IsEventRefusal}

-- it withdraws one name
abbrev pub HasOneWithdrawal : List ℕ → Type 0
HasOneWithdrawal text = (name other : List ℕ) → IsWithdrawal text name → IsWithdrawal text other → name ≡ other

-- an import text is no withdrawal text
abbrev pub HasOneKind : List ℕ → Type 0
HasOneKind text = (h : Header) (note digits name : List ℕ) → IsImport text h note digits → ¬ IsWithdrawal text name

-- an event is not refused
abbrev pub IsNotRefusedEvent : List ℕ → Type 0
IsNotRefusedEvent text = (refused : FormRefused) → IsEvent text → ¬ IsEventRefusal text refused

-- a text is refused for one cause, at one line
abbrev pub HasOneEventRefusal : List ℕ → Type 0
HasOneEventRefusal text = (r s : FormRefused) → IsEventRefusal text r → IsEventRefusal text s → r ≡ s

-- the refused line should be a header or blank
abbrev pub WantsHeaderOrBlank : FormRefused → Type 0
WantsHeaderOrBlank TooLong = ⊥
WantsHeaderOrBlank (Line n wanted.Header) = Unit {0}
WantsHeaderOrBlank (Line n wanted.Source) = ⊥
WantsHeaderOrBlank (Line n wanted.Row) = ⊥
WantsHeaderOrBlank (Line n wanted.Blank) = Unit {0}

-- with the word `withdraw` in front a text that is not too long is refused as an import text, at line 1
abbrev pub IsNoImport : List ℕ → Type 0
IsNoImport text = SaysWithdraw text → length text ≤ MOST_BYTES → IsRefusal text (Line 1 wanted.Header)

-- and as an event only where a header or a blank line should stand
abbrev pub IsWithdrawalOrRefused : List ℕ → Type 0
IsWithdrawalOrRefused text = (refused : FormRefused) → SaysWithdraw text → length text ≤ MOST_BYTES → IsEventRefusal text refused → WantsHeaderOrBlank refused

-- without it a text is an event only as an import text
abbrev pub IsImportEvent : List ℕ → Type 0
IsImportEvent text = ¬ SaysWithdraw text → IsEvent text → IsSomeImport text

-- and refused exactly as it is as an import text
abbrev pub IsImportRefusal : List ℕ → Type 0
IsImportRefusal text = (refused : FormRefused) → ¬ SaysWithdraw text → IsEventRefusal text refused ↔ IsRefusal text refused
