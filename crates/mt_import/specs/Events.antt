-- The texts of events: which there are, and which line of any other is refused.
use Rattle.std.specs.Prelude.{◌≡◌, ℕ, ◌<◌, ◌≤◌, ◌⊎◌, List, [], ◌∷◌, length, codes}
use Rattle.mt_import.specs.declared.headers.Header.{Header}
use Rattle.mt_import.specs.declared.refusals.FormRefused.{FormRefused}
use Rattle.mt_import.specs.declared.refusals.FormRefused.TheVariants.{TooLong, Line}
use Rattle.mt_import.specs.declared.refusals.Wanted.TheVariants as wanted
use Rattle.mt_import.specs.declared.import_text.TheConstants.{MOST_BYTES}
use Rattle.mt_import.specs.Lines.{lines_of, words_of}
use Rattle.mt_import.specs.Texts.{IsImport, HasNoHeader, IsRefusedSource, IsRefusedRow, IsRefusedEnd}
use Rattle.mt_import.specs.Withdrawals.{IsWithdrawLine, IsWithdrawal, IsRefusedWithdrawal}

-- the text is an import text
abbrev pub IsSomeImport : List ℕ → Type 0
IsSomeImport text = (h : Header) × (note : List ℕ) × (digits : List ℕ) × IsImport text h note digits

-- the text is an import text or a withdrawal text
abbrev pub IsEvent : List ℕ → Type 0
IsEvent text = IsSomeImport text ⊎ ((name : List ℕ) × IsWithdrawal text name)

-- the first word on line 1 is `withdraw`
pub record SaysWithdraw (text : List ℕ) : Type 0 where
  pub first : List ℕ
  pub others : List (List ℕ)
  pub words : List (List ℕ)
  pub lines : lines_of text ≡ first ∷ others
  pub words_are : words_of first ≡ codes "withdraw" ∷ words

-- line 1 is missing or withdraws no name
abbrev pub HasNoWithdrawLine : List (List ℕ) → Type 0
HasNoWithdrawLine [] = Unit {0}
HasNoWithdrawLine (line ∷ lines) = (name : List ℕ) → ¬ IsWithdrawLine line name

-- why a text is no event: it is too long, or this is the first line that is not what it should be, where line 1 is a
-- header or withdraws a name
abbrev pub IsEventRefusal : List ℕ → FormRefused → Type 0
IsEventRefusal text TooLong = MOST_BYTES < length text
IsEventRefusal text (Line n wanted.Header) = (length text ≤ MOST_BYTES) × (n ≡ 1) × (HasNoHeader (lines_of text) × HasNoWithdrawLine (lines_of text))
IsEventRefusal text (Line n wanted.Source) = IsRefusedSource text n
IsEventRefusal text (Line n wanted.Row) = IsRefusedRow text n
IsEventRefusal text (Line n wanted.Blank) = IsRefusedEnd text n ⊎ IsRefusedWithdrawal text n
