-- Internal: what the reader of withdrawal texts answers.
use Rattle.std.specs.Prelude.{◌≡◌, ℕ, ◌≤◌, List, length, Option, None, Some, Result, Ok, Err}
use Rattle.mt_import.specs.declared.refusals.FormRefused.{FormRefused}
use Rattle.mt_import.specs.declared.refusals.FormRefused.TheVariants.{Line}
use Rattle.mt_import.specs.declared.refusals.Wanted.TheVariants.{Blank}
use Rattle.mt_import.specs.declared.import_text.TheConstants.{MOST_BYTES}
use Rattle.mt_import.specs.Lines.{lines_of}
use Rattle.mt_import.specs.Withdrawals.{IsWithdrawal, IsRefusedWithdrawal}
use Rattle.mt_import.specs.Events.{HasNoWithdrawLine}

-- a line that should be blank is the first that is refused, behind a line that withdraws a name
pub record RefusesWithdrawal (text : List ℕ) (refused : FormRefused) : Type 0 where
  pub number : ℕ
  pub refused_is : refused ≡ Line number Blank
  pub line : IsRefusedWithdrawal text number

-- the name that the text withdraws, none where line 1 withdraws none, or the first line that is refused
abbrev pub IsWithdrawAnswer : List ℕ → Result (Option (List ℕ)) FormRefused → Type 0
IsWithdrawAnswer text (Ok (Some name)) = IsWithdrawal text name
IsWithdrawAnswer text (Ok None) = length text ≤ MOST_BYTES → HasNoWithdrawLine (lines_of text)
IsWithdrawAnswer text (Err refused) = RefusesWithdrawal text refused
