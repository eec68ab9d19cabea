-- What the texts of the three statements mean to the database.
use Rattle.std.proofs.Common.{◌≡◌, ℕ, pos, negsuc, List, [], ◌∷◌, codes, false, None, Ok, Err, Result, refl}
use Rattle.sqlite.specs.Command.TheVariants.{Insert, Select, CreateTable, Nothing}
use Rattle.sqlite.specs.Compile.{table_defined_by}
use Rattle.sqlite.specs.Listing.{understood, listing_schema, reads_listing}
use Rattle.sqlite.specs.Query.{Query, inner, end}
use Rattle.sqlite.specs.Source.TheVariants.{Values}
use Rattle.sqlite.specs.Term.{Term, lit, col}
use Rattle.sqlite.specs.declared.types.Value.TheVariants.{Null, Int}
use Rattle.sqlite.proofs.Callers.{IsPlain, command_of, statement_of}
use Rattle.sqlite_tied.specs.Compute.{everything}
use Rattle.sqlite_value.specs.Keys.{ascending}
use Rattle.sqlite_value.specs.declared.keys.Collation.TheVariants.{Binary}
use Rattle.mt_keeper_sql.specs.Store.{imports, imports_schema, no_schema}

abbrev pub create_text : List ℕ
create_text = codes "CREATE TABLE IF NOT EXISTS imports (number INTEGER PRIMARY KEY, text BLOB NOT NULL) STRICT"

abbrev pub insert_text : List ℕ
insert_text = codes "INSERT INTO imports (number, text) VALUES (?1, ?2)"

abbrev pub select_text : List ℕ
select_text = codes "SELECT number, text FROM imports ORDER BY number"

-- a row to insert, from the parameters
abbrev pub terms : List Term
terms = col 0 0 ∷ lit Null ∷ col 0 1 ∷ []

abbrev pub query : Query
query = record {
  from = inner 0 end;
  filter = [];
  group = None;
  project = col 1 0 ∷ col 1 2 ∷ [];
  distinct = false;
  collations = [];
  order = (col 1 0, ascending Binary) ∷ [];
  limit = lit (Int (negsuc 0));
  offset = lit (Int (pos 0));
}

pub create_is : (command_of (understood no_schema create_text) ≡ CreateTable) × (table_defined_by create_text ≡ Ok imports)
unfolding understood everything
create_is = (refl, refl)

pub create_statement : statement_of create_text (understood no_schema create_text) ≡ create_text
unfolding understood everything
create_statement = refl

pub create_plain : IsPlain (understood no_schema create_text)
unfolding understood everything
create_plain = (refl, refl)

pub again_is : command_of (understood imports_schema create_text) ≡ Nothing
unfolding understood everything
again_is = refl

pub again_plain : IsPlain (understood imports_schema create_text)
unfolding understood everything
again_plain = (refl, refl)

pub insert_is : command_of (understood imports_schema insert_text) ≡ Insert 0 (Values terms 3)
unfolding understood everything
insert_is = refl

pub insert_plain : IsPlain (understood imports_schema insert_text)
unfolding understood everything
insert_plain = (refl, refl)

pub select_is : (command_of (understood imports_schema select_text) ≡ Select (record { lets = []; body = query }) (codes "number" ∷ codes "text" ∷ [])) × (reads_listing imports_schema select_text ≡ false)
unfolding understood everything
select_is = (refl, refl)

pub select_plain : IsPlain (understood imports_schema select_text)
unfolding understood everything
select_plain = (refl, refl)

-- whether a text was understood
abbrev pub IsRefused : {T E : Type 0} → Result T E → Type 0
IsRefused (Ok x) = ⊥
IsRefused (Err e) = Unit {0}

pub insert_nowhere : IsRefused (understood no_schema insert_text)
unfolding understood listing_schema everything
insert_nowhere = tt
