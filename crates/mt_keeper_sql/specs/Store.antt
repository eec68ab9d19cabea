-- The table of the store, and the texts that a database holds by it.
use Rattle.std.specs.Prelude.{◌≡◌, ◌⊎◌, ℕ, ◌+◌, pos, true, false, Some, List, [], ◌∷◌, codes}
use Rattle.sqlite.specs.Collation.TheVariants.{Binary}
use Rattle.sqlite.specs.Effect.{Database}
use Rattle.sqlite.specs.Kind.TheVariants.{Integer, Blob}
use Rattle.sqlite.specs.Order.{Row}
use Rattle.sqlite.specs.Schema.{Schema}
use Rattle.sqlite.specs.Table.{Table}
use Rattle.sqlite.specs.declared.types.Value.TheVariants as value

-- `CREATE TABLE imports (number INTEGER PRIMARY KEY, text BLOB NOT NULL) STRICT`
abbrev pub imports : Table
imports = record {
  name = codes "imports";
  tree = 0;
  columns = (record { name = codes "number"; kind = Integer; is_strict = true; not_null = false; default = value.Null; collation = Binary })
      ∷ (record { name = codes "text"; kind = Blob; is_strict = true; not_null = true; default = value.Null; collation = Binary }) ∷ [];
  key = Some 0;
  primary = 0 ∷ [];
  uniques = [];
  orders = [];
  checks = [];
  references = [];
  computed = [];
  stamps = record { places = []; terms = []; formats = [] };
  is_counted = false;
}

abbrev pub imports_schema : Schema
imports_schema = record { tables = imports ∷ []; indexes = []; views = [] }

abbrev pub no_schema : Schema
no_schema = record { tables = []; indexes = []; views = [] }

-- record n as the table has it: its rowid, and its columns, of which the first is the rowid
abbrev pub stored : ℕ → List ℕ → Row
stored n text = value.Int (pos n) ∷ value.Null ∷ value.Blob text ∷ []

-- the texts as records n, n + 1 and so on
abbrev pub stored_rows : ℕ → List (List ℕ) → List Row
stored_rows n [] = []
stored_rows n (text ∷ texts) = stored n text ∷ stored_rows (n + 1) texts

-- record n as a query shows it
abbrev pub shown : ℕ → List ℕ → Row
shown n text = value.Int (pos n) ∷ value.Blob text ∷ []

abbrev pub shown_rows : ℕ → List (List ℕ) → List Row
shown_rows n [] = []
shown_rows n (text ∷ texts) = shown n text ∷ shown_rows (n + 1) texts

-- the database is the one table, with the texts as records 1, 2 and so on
pub record HasTable (db : Database) (texts : List (List ℕ)) : Type 0 where
  pub schema : db.schema ≡ imports_schema
  pub rows : db.trees 0 ≡ stored_rows 1 texts

-- the database holds the texts: it is the one table with them, or it has no table and there is none
abbrev pub Holds : Database → List (List ℕ) → Type 0
Holds db texts = HasTable db texts ⊎ ((db.schema ≡ no_schema) × (texts ≡ []))
