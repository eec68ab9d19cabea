-- Import texts: which there are, and which line of any other is refused.
use Rattle.std.specs.Prelude.{◌≡◌, ℕ, ◌+◌, ◌-◌, ◌*◌, ◌<◌, ◌≤◌, List, [], ◌∷◌, ◌++◌, length, map, flat_map, All}
use Rattle.mt_import.specs.declared.headers.Header.{Header}
use Rattle.mt_import.specs.declared.refusals.FormRefused.{FormRefused}
use Rattle.mt_import.specs.declared.refusals.FormRefused.TheVariants.{TooLong, Line}
use Rattle.mt_import.specs.declared.refusals.Wanted.TheVariants as wanted
use Rattle.mt_import.specs.declared.import_text.TheConstants.{MOST_BYTES}
use Rattle.mt_import.specs.Lines.{digit_zero, lines_of, without_blanks}
use Rattle.mt_import.specs.Sources.{IsBadSource, IsSource}
use Rattle.mt_import.specs.Headers.{IsHeaderLine}

-- m digits below q, with blanks anywhere
pub record IsRow (q m : ℕ) (line : List ℕ) : Type 0 where
  pub size : length (without_blanks line) ≡ m
  pub digits : All (λ b. (digit_zero ≤ b) × (b < digit_zero + q)) (without_blanks line)

-- the digits of a row
abbrev pub digits_of : List ℕ → List ℕ
digits_of line = map (λ b. b - digit_zero) (without_blanks line)

abbrev pub IsBlankLine : List ℕ → Type 0
IsBlankLine line = without_blanks line ≡ []

-- line 1 is this header
pub record HasHeader (text : List ℕ) (h : Header) : Type 0 where
  pub line : List ℕ
  pub others : List (List ℕ)
  pub lines : lines_of text ≡ line ∷ others
  pub header : IsHeaderLine line h

-- a text that is not too long is a line with this header, the source line where there is one, these rows, and these
-- other lines
pub record Begins (text : List ℕ) (h : Header) (note : List ℕ) (source rows others : List (List ℕ)) : Type 0 where
  pub few : length text ≤ MOST_BYTES
  pub first : List ℕ
  pub lines : lines_of text ≡ first ∷ source ++ (rows ++ others)
  pub header : IsHeaderLine first h
  pub source_is : IsSource source note (rows ++ others)
  pub each : All (IsRow h.q h.m) rows

-- the text is a header, the source line where there is one, the rows by coordinate and then by row, which have these
-- digits, and blank lines
pub record IsImport (text : List ℕ) (h : Header) (note digits : List ℕ) : Type 0 where
  pub source : List (List ℕ)
  pub rows : List (List ℕ)
  pub blanks : List (List ℕ)
  pub begins : Begins text h note source rows blanks
  pub number : length rows ≡ h.s * h.depth
  pub digits_are : digits ≡ flat_map digits_of rows
  pub blank : All IsBlankLine blanks

-- line 1 is missing or is no header
abbrev pub HasNoHeader : List (List ℕ) → Type 0
HasNoHeader [] = Unit {0}
HasNoHeader (line ∷ lines) = (h : Header) → ¬ IsHeaderLine line h

-- the first of these lines begins as a source line and is none
abbrev pub HasBadSource : List (List ℕ) → Type 0
HasBadSource [] = ⊥
HasBadSource (line ∷ lines) = IsBadSource line

-- line 2 is the first that is refused, as it begins as a source line and is none
pub record IsRefusedSource (text : List ℕ) (n : ℕ) : Type 0 where
  pub few : length text ≤ MOST_BYTES
  pub header : Header
  pub starts : HasHeader text header
  pub line : n ≡ 2
  pub refused : HasBadSource starts.others

-- the first of these lines is missing or is no row
abbrev pub HasNoRow : ℕ → ℕ → List (List ℕ) → Type 0
HasNoRow q m [] = Unit {0}
HasNoRow q m (line ∷ lines) = ¬ IsRow q m line

-- line n is the first that is refused, where a row should stand
pub record IsRefusedRow (text : List ℕ) (n : ℕ) : Type 0 where
  pub header : Header
  pub note : List ℕ
  pub source : List (List ℕ)
  pub rows : List (List ℕ)
  pub others : List (List ℕ)
  pub begins : Begins text header note source rows others
  pub fewer : length rows < header.s * header.depth
  pub line : n ≡ length source + length rows + 2
  pub refused : HasNoRow header.q header.m others

-- line n is the first that is refused, behind the rows
pub record IsRefusedEnd (text : List ℕ) (n : ℕ) : Type 0 where
  pub header : Header
  pub note : List ℕ
  pub source : List (List ℕ)
  pub rows : List (List ℕ)
  pub blanks : List (List ℕ)
  pub last : List ℕ
  pub others : List (List ℕ)
  pub begins : Begins text header note source rows (blanks ++ last ∷ others)
  pub number : length rows ≡ header.s * header.depth
  pub blank : All IsBlankLine blanks
  pub line : n ≡ length source + length rows + length blanks + 2
  pub refused : ¬ IsBlankLine last

-- why a text is no import text: it is too long, or this is the first line that is not what it should be
abbrev pub IsRefusal : List ℕ → FormRefused → Type 0
IsRefusal text TooLong = MOST_BYTES < length text
IsRefusal text (Line n wanted.Header) = (length text ≤ MOST_BYTES) × (n ≡ 1) × HasNoHeader (lines_of text)
IsRefusal text (Line n wanted.Source) = IsRefusedSource text n
IsRefusal text (Line n wanted.Row) = IsRefusedRow text n
IsRefusal text (Line n wanted.Blank) = IsRefusedEnd text n
