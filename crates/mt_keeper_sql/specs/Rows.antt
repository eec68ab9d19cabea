-- Internal: rows that a query shows as records.
use Rattle.std.specs.Prelude.{◌≡◌, ℕ, ◌+◌, pos, List, [], ◌∷◌}
use Rattle.sqlite.specs.Order.{Row, column}
use Rattle.sqlite.specs.declared.types.Value.TheVariants.{Int, Blob}

-- the row is record n, with these bytes
pub record IsRecord (n : ℕ) (row : Row) (bytes : List ℕ) : Type 0 where
  pub number : column row 0 ≡ Int (pos n)
  pub text : column row 1 ≡ Blob bytes

-- the rows are the records n, n + 1 and so on, with these texts
abbrev pub AreRecords : ℕ → List Row → List (List ℕ) → Type 0
AreRecords n [] [] = Unit {0}
AreRecords n [] (text ∷ texts) = ⊥
AreRecords n (row ∷ rows) [] = ⊥
AreRecords n (row ∷ rows) (text ∷ texts) = IsRecord n row text × AreRecords (n + 1) rows texts
