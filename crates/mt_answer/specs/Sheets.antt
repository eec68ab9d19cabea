-- The values of many cells, as comma-separated values.
use Rattle.std.specs.Prelude.{◌≡◌, ℕ, ◌+◌, ◌-◌, ◌<◌, List, [], ◌∷◌, ◌++◌, length, get_or, flat_map, codes, decimal}
use Rattle.std.specs.List.{join_with_byte}
use Rattle.mt_linear.specs.declared.order.Order.{Order}
use Rattle.mt_linear.specs.Field.{number_of}
use Rattle.mt_cells.specs.declared.bounds.Bounds.{Bounds}
use Rattle.mt_cells.specs.declared.rules.RuleSet.{RuleSet}
use Rattle.mt_cells.specs.declared.cells.Cell.{Cell}
use Rattle.mt_cells.specs.declared.cells.Cell.TheVariants.{Ooa, Seq}
use Rattle.mt_cells.specs.declared.asks.Kind.TheVariants as kind
use Rattle.mt_cells.specs.Cells.{InBounds, number, cells_of}
use Rattle.mt_cells.specs.Texts.{kind_text}
use Rattle.mt_derive.specs.declared.events.Event.{Event}
use Rattle.mt_derive.specs.Trees.{IsValue}
use Rattle.mt_derive.specs.Values.{IsSince}
use Rattle.mt_derive.specs.Events.{entries_of}

-- the fields with commas between them, and a line feed
abbrev pub line_text : List (List ℕ) → List ℕ
line_text fields = join_with_byte 44 fields ++ 10 ∷ []

-- a sequence's depth is shown as its number of columns
abbrev pub cell_fields : Cell → List (List ℕ)
cell_fields (Ooa o m s depth) = kind_text kind.Ooa ∷ decimal (number_of o) ∷ decimal m ∷ decimal s ∷ decimal depth ∷ []
cell_fields (Seq o m s) = kind_text kind.Seq ∷ decimal (number_of o) ∷ decimal m ∷ decimal s ∷ decimal m ∷ []

module _ (b : Bounds) (rules : RuleSet) (E : List Event) where
  -- the fields for s coordinates: the greatest values of the net, the orthogonal array and the sequence, and their t = m - k
  pub record IsTableRow (o : Order) (m s : ℕ) (fields : List (List ℕ)) : Type 0 where
    pub net_k : ℕ
    pub net : IsValue b rules (entries_of E) (Ooa o m s m) net_k
    pub oa_k : ℕ
    pub oa : IsValue b rules (entries_of E) (Ooa o m s 1) oa_k
    pub seq_k : ℕ
    pub seq : IsValue b rules (entries_of E) (Seq o m s) seq_k
    pub fields_are : fields ≡ decimal s ∷ decimal net_k ∷ decimal (m - net_k) ∷ decimal oa_k ∷ decimal (m - seq_k) ∷ []

  -- a header, and a row for each s from 1 to the most coordinates
  pub record IsTableText (o : Order) (m : ℕ) (text : List ℕ) : Type 0 where
    pub rows : List (List (List ℕ))
    pub count : length rows ≡ b.s_max
    pub each : (n : ℕ) → n < b.s_max → IsTableRow o m (n + 1) (get_or rows n [])
    pub text_is : text ≡ codes "s,net_k,net_t,oa_k,seq_t" ++ 10 ∷ flat_map line_text rows

  -- the fields of a cell: its sizes, its greatest value and the last import that changed it
  pub record IsExportRow (c : Cell) (fields : List (List ℕ)) : Type 0 where
    pub k : ℕ
    pub value : IsValue b rules (entries_of E) c k
    pub since : ℕ
    pub is_since : IsSince b rules E c since
    pub fields_are : fields ≡ cell_fields c ++ decimal k ∷ decimal since ∷ []

  -- a header, and a row for each cell, in the order of cells
  pub record IsExportText (text : List ℕ) : Type 0 where
    pub rows : List (List (List ℕ))
    pub count : length rows ≡ cells_of b
    pub each : (c : Cell) → InBounds b c → IsExportRow c (get_or rows (number b c) [])
    pub text_is : text ≡ codes "kind,q,m,s,depth,k,since" ++ 10 ∷ flat_map line_text rows
