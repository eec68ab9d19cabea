-- What the reader answers, and what its parts take off a text.
use Rattle.std.specs.Prelude.{◌≡◌, ℕ, ◌+◌, ◌*◌, ◌<◌, List, ◌∷◌, ◌++◌, length, take, flat_map, All, Result, Ok, Err}
use Rattle.mt_system.specs.declared.claims.Claim.{Claim}
use Rattle.mt_system.specs.Statements.{statement_of}
use Rattle.mt_import.specs.declared.headers.Header.{Header}
use Rattle.mt_import.specs.declared.refusals.FormRefused.{FormRefused}
use Rattle.mt_import.specs.declared.refusals.FormRefused.TheVariants.{Line}
use Rattle.mt_import.specs.declared.refusals.Wanted.TheVariants.{Row, Blank}
use Rattle.mt_import.specs.declared.refusals.ImportRefused.{ImportRefused}
use Rattle.mt_import.specs.declared.refusals.ImportRefused.TheVariants.{Form, Memory}
use Rattle.mt_import.specs.Lines.{lines_of}
use Rattle.mt_import.specs.Sources.{IsSource}
use Rattle.mt_import.specs.Headers.{IsHeader, IsHeaderLine}
use Rattle.mt_import.specs.Texts.{IsRow, digits_of, IsBlankLine, HasNoRow, IsRefusal}
use Rattle.mt_import.specs.Canonical.{IsTextOf}

-- line 1 is this header, and the other lines are those of the rest
pub record StartsWith (text : List ℕ) (h : Header) (rest : List ℕ) : Type 0 where
  pub line : List ℕ
  pub lines : lines_of text ≡ line ∷ lines_of rest
  pub header : IsHeaderLine line h

-- the source line, where there is one, with the rest behind it, whose first line has this number
pub record TakesSource (text note rest : List ℕ) (n : ℕ) : Type 0 where
  pub source : List (List ℕ)
  pub lines : lines_of text ≡ source ++ lines_of rest
  pub source_is : IsSource source note (lines_of rest)
  pub number : n ≡ length source + 2

-- the claim of the text, or why it has none
abbrev pub IsReading : List ℕ → Result Claim ImportRefused → Type 0
IsReading text (Ok c) = IsTextOf text (statement_of c)
IsReading text (Err (Form f)) = IsRefusal text f
IsReading text (Err Memory) = Unit {0}

-- the lines of the rows, where the text begins with them
abbrev pub row_lines : Header → List ℕ → List (List ℕ)
row_lines h text = take (h.s * h.depth) (lines_of text)

-- the text begins with the rows of this header
pub record HasRows (h : Header) (text : List ℕ) : Type 0 where
  pub header : IsHeader h
  pub number : length (row_lines h text) ≡ h.s * h.depth
  pub each : All (IsRow h.q h.m) (row_lines h text)

-- what an import text says
pub record Contents : Type 0 where
  pub header : Header
  pub note : List ℕ
  pub digits : List ℕ

-- by this header, this note and a text that begins with the rows of the header
abbrev pub said_by : Header → List ℕ → List ℕ → Contents
said_by h note text = record { header = h; note = note; digits = flat_map digits_of (row_lines h text) }

-- so many rows, with the rest behind them
pub record TakesRows (h : Header) (n : ℕ) (text rest : List ℕ) (rows : List (List ℕ)) : Type 0 where
  pub number : length rows ≡ n
  pub lines : lines_of text ≡ rows ++ lines_of rest
  pub each : All (IsRow h.q h.m) rows

-- fewer rows than n, and then none; the first line is number first
pub record LacksRow (h : Header) (n first : ℕ) (text : List ℕ) (refused : FormRefused) : Type 0 where
  pub rows : List (List ℕ)
  pub others : List (List ℕ)
  pub lines : lines_of text ≡ rows ++ others
  pub each : All (IsRow h.q h.m) rows
  pub fewer : length rows < n
  pub none : HasNoRow h.q h.m others
  pub refused_is : refused ≡ Line (first + length rows) Row

-- blank lines, and then one that is not; the first line is number n
pub record LacksBlank (n : ℕ) (text : List ℕ) (refused : FormRefused) : Type 0 where
  pub blanks : List (List ℕ)
  pub last : List ℕ
  pub others : List (List ℕ)
  pub lines : lines_of text ≡ blanks ++ last ∷ others
  pub blank : All IsBlankLine blanks
  pub none : ¬ IsBlankLine last
  pub refused_is : refused ≡ Line (n + length blanks) Blank
