-- The text of a sheet's first rows.
use Rattle.std.proofs.Common.{◌≡◌, ℕ, ◌+◌, ◌<◌, List, [], ◌∷◌, ◌++◌, length, get_or, refl, sym, ap, ◌∙◌, subst, arith, below_more, flat_map, codes}
use Rattle.std.proofs.lemmas.List.{flat_map_more, get_or_append_left, get_or_push, length_push, append-nil}
use Rattle.mt_linear.specs.declared.order.Order.{Order}
use Rattle.mt_cells.specs.declared.cells.Cell.{Cell}
use Rattle.mt_cells.specs.Cells.{InBounds, number, cells_of}
use Rattle.mt_cells.proofs.CellLemmas.{number_apart, number_below}
use Rattle.mt_table.specs.Tables.{Contents}
use Rattle.mt_answer.specs.Sheets.{line_text, IsTableRow, IsExportRow, IsExportText}

-- a header and n rows, each with what is said of it
pub record IsSheet (header : List ℕ) (IsRow : ℕ → List (List ℕ) → Type 0) (n : ℕ) (text : List ℕ) : Type 0 where
  pub rows : List (List (List ℕ))
  pub count : length rows ≡ n
  pub each : (k : ℕ) → k < n → IsRow k (get_or rows k [])
  pub text_is : text ≡ header ++ flat_map line_text rows

pub header_alone : (header : List ℕ) (IsRow : ℕ → List (List ℕ) → Type 0) (text : List ℕ) → text ≡ header → IsSheet header IsRow 0 text
header_alone header IsRow text e = record {
  rows = [];
  count = refl;
  each = λ k l. absurd (omega arith);
  text_is = e ∙ sym (append-nil header);
}

pub one_more : (header : List ℕ) (IsRow : ℕ → List (List ℕ) → Type 0) (n : ℕ) (old new : List ℕ) (fields : List (List ℕ)) → IsSheet header IsRow n old → IsRow n fields
    → new ≡ old ++ line_text fields → IsSheet header IsRow (n + 1) new
one_more header IsRow n old new fields sheet row e = record {
  rows = sheet.rows ++ fields ∷ [];
  count = length_push sheet.rows fields ∙ ap (λ k. k + 1) sheet.count;
  each = below_more (λ k. IsRow k (get_or (sheet.rows ++ fields ∷ []) k [])) n
      (λ k l. let within : k < length sheet.rows = omega (arith, sheet.count) in
      subst (IsRow k) (sym (get_or_append_left sheet.rows (fields ∷ []) [] k within)) (sheet.each k l))
      (subst (IsRow n) (sym (get_or_push sheet.rows fields [] n sheet.count)) row);
  text_is = e ∙ ap (λ text. text ++ line_text fields) sheet.text_is ∙ flat_map_more line_text header sheet.rows fields;
}

abbrev pub table_header : List ℕ
table_header = codes "s,net_k,net_t,oa_k,seq_t" ++ 10 ∷ []

abbrev pub export_header : List ℕ
export_header = codes "kind,q,m,s,depth,k,since" ++ 10 ∷ []

-- the fields for n + 1 coordinates
abbrev pub IsRowOf : Contents → Order → ℕ → ℕ → List (List ℕ) → Type 0
IsRowOf t o m n fields = IsTableRow t.bounds t.rules t.events o m (n + 1) fields

-- the fields of the cell of number n
abbrev pub IsCellRow : Contents → ℕ → List (List ℕ) → Type 0
IsCellRow t n fields = (c : Cell) × InBounds t.bounds c × (number t.bounds c ≡ n) × IsExportRow t.bounds t.rules t.events c fields

-- the rows of all numbers are those of all cells
pub all_cells : (t : Contents) (n : ℕ) (text : List ℕ) → n ≡ cells_of t.bounds → IsSheet export_header (IsCellRow t) n text → IsExportText t.bounds t.rules t.events text
all_cells t n text e sheet = record {
  rows = sheet.rows;
  count = sheet.count ∙ e;
  each = λ c inside.
      let row = sheet.each (number t.bounds c) (omega (arith, number_below t.bounds c inside, e)) in
      subst (λ (x : Cell). IsExportRow t.bounds t.rules t.events x (get_or sheet.rows (number t.bounds c) []))
      (number_apart t.bounds row.0 c row.1 inside row.2) row.3;
  text_is = sheet.text_is;
}
