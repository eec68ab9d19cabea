-- Withdrawal texts: which there are, what else one may be refused for, and the canonical one.
use Rattle.std.specs.Prelude.{◌≡◌, ℕ, ◌+◌, ◌≤◌, List, [], ◌∷◌, ◌++◌, length, codes, All}
use Rattle.mt_system.specs.Claims.{IsName}
use Rattle.mt_import.specs.declared.import_text.TheConstants.{MOST_BYTES}
use Rattle.mt_import.specs.Lines.{line_feed, space, lines_of, words_of}
use Rattle.mt_import.specs.Texts.{IsBlankLine}

-- the words of the line are `withdraw` and this name
pub record IsWithdrawLine (line name : List ℕ) : Type 0 where
  pub words : words_of line ≡ codes "withdraw" ∷ name ∷ []
  pub form : IsName name

-- a text that is not too long is a line that withdraws this name, and these other lines
pub record BeginsWithdrawal (text name : List ℕ) (others : List (List ℕ)) : Type 0 where
  pub few : length text ≤ MOST_BYTES
  pub first : List ℕ
  pub lines : lines_of text ≡ first ∷ others
  pub withdraws : IsWithdrawLine first name

-- the text is a line that withdraws this name, and blank lines
pub record IsWithdrawal (text name : List ℕ) : Type 0 where
  pub blanks : List (List ℕ)
  pub begins : BeginsWithdrawal text name blanks
  pub blank : All IsBlankLine blanks

-- line n is the first that is refused, behind a line that withdraws a name
pub record IsRefusedWithdrawal (text : List ℕ) (n : ℕ) : Type 0 where
  pub name : List ℕ
  pub blanks : List (List ℕ)
  pub last : List ℕ
  pub others : List (List ℕ)
  pub begins : BeginsWithdrawal text name (blanks ++ last ∷ others)
  pub blank : All IsBlankLine blanks
  pub line : n ≡ length blanks + 2
  pub refused : ¬ IsBlankLine last

-- the canonical text: the word, a space and the name, with a line feed behind them
abbrev pub withdraw_text : List ℕ → List ℕ
withdraw_text name = codes "withdraw" ++ space ∷ name ++ line_feed ∷ []
