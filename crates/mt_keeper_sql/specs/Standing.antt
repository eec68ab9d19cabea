-- Internal: what stands in a store between two statements, and what each statement leaves.
use Rattle.std.specs.Prelude.{◌≡◌, ℕ, ◌+◌, false, List, [], ◌∷◌, ◌++◌, length, IsTrue}
use Rattle.sqlite.specs.Order.{Row}
use Rattle.sqlite.specs.State.{State}
use Rattle.mt_keeper_sql.specs.Store.{Holds, HasTable, shown_rows}

-- the connection is in no transaction, and what it shows is committed and holds the texts
pub record Stands (s : State) (texts : List (List ℕ)) : Type 0 where
  pub autocommit : s.in_transaction ≡ false
  pub committed : IsTrue s.is_open → s.now ≡ s.committed
  pub holds : Holds s.now texts

-- the connection was open, and the texts stand afterwards
pub record Leaves (old new : State) (texts : List (List ℕ)) : Type 0 where
  pub was_open : IsTrue old.is_open
  pub stands : Stands new texts

-- after a refused statement the texts stand where the connection is still open
abbrev pub Refuses : State → State → Type 0
Refuses old new = (texts : List (List ℕ)) → Stands old texts → IsTrue new.is_open → Leaves old new texts

-- the table is there, with the texts that there were
abbrev pub Creates : State → State → Type 0
Creates old new = (texts : List (List ℕ)) → Stands old texts → Leaves old new texts × HasTable new.now texts

-- the text is appended, where the number is that of the record to come
abbrev pub Inserts : State → State → ℕ → List ℕ → Type 0
Inserts old new number text =
    (texts : List (List ℕ)) → Stands old texts → IsTrue old.is_open × (number ≡ length texts + 1 → Leaves old new (texts ++ text ∷ []))

-- the rows are those of the table
abbrev pub Selects : State → State → List Row → Type 0
Selects old new rows =
    (texts : List (List ℕ)) → Stands old texts → HasTable old.now texts → Leaves old new texts × (rows ≡ shown_rows 1 texts)

-- the texts are those that there are
abbrev pub Reads : State → State → List (List ℕ) → Type 0
Reads old new read = (texts : List (List ℕ)) → Stands old texts → Leaves old new texts × (read ≡ texts)
