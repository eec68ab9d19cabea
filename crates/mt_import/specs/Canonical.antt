-- The texts of a claim, and the canonical one among them.
use Rattle.std.specs.Prelude.{ℕ, zero, suc, ◌+◌, ◌*◌, List, [], ◌∷◌, ◌++◌, map, take, drop, codes}
use Rattle.std.specs.List.{join_with_byte}
use Rattle.mt_linear.specs.Field.{number_of}
use Rattle.mt_system.specs.Statements.{Statement}
use Rattle.mt_import.specs.declared.headers.Header.{Header}
use Rattle.mt_import.specs.Lines.{line_feed, space, digit_zero}
use Rattle.mt_import.specs.Headers.{header_words}
use Rattle.mt_import.specs.Texts.{IsImport}

-- the header that a claim's text has
abbrev pub header_of : Statement → Header
header_of c = record {
  form = c.form;
  q = number_of c.system.order;
  m = c.system.columns;
  s = c.system.coordinates;
  depth = c.system.depth;
  k = c.k;
  name = c.name;
}

-- an import text that says this
abbrev pub IsTextOf : List ℕ → Statement → Type 0
IsTextOf text c = IsImport text (header_of c) c.note c.system.digits

-- n rows of m digits, with a line feed behind each
abbrev pub rows_text : ℕ → ℕ → List ℕ → List ℕ
rows_text m zero digits = []
rows_text m (suc n) digits = map (λ d. digit_zero + d) (take m digits) ++ line_feed ∷ rows_text m n (drop m digits)

-- the source line of this note with a line feed behind it, where there is a note
abbrev pub source_text : List ℕ → List ℕ
source_text [] = []
source_text (b ∷ bs) = codes "source" ++ space ∷ b ∷ bs ++ line_feed ∷ []

-- the words of the header with single spaces between them, the source line, and the rows
abbrev pub canonical_text : Statement → List ℕ
canonical_text c =
    join_with_byte space (header_words (header_of c)) ++ line_feed ∷ (source_text c.note ++ rows_text c.system.columns (c.system.coordinates * c.system.depth) c.system.digits)
