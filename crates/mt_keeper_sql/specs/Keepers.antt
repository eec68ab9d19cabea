-- What a keeper over SQL is seen as, and the records that it tells.
use Rattle.std.specs.Prelude.{ℕ, Bool, true, false, List, [], ◌∷◌, map, Option, None, Some, IsTrue, refl}
use Rattle.std.specs.Coded.{Coded, code_by, coded×, coded_ℕ, coded_bool}
use Rattle.sqlite.specs.Effect.{Database}
use Rattle.sqlite.specs.Held.{Held, held_code}
use Rattle.sqlite.specs.Order.{Row, column}
use Rattle.sqlite.specs.State.{State}
use Rattle.sqlite.specs.Table.{Table}
use Rattle.sqlite.specs.declared.types.Value.{Value}
use Rattle.sqlite.specs.declared.types.Value.TheVariants.{Null, Int, Real, Text, Blob}
use Rattle.mt_keeper_sql.specs.Standing.{Stands}

-- the connection, whether the keeper tells its records, whether its last call was refused, and how many faults there were
pub record SqlKeeperState (S : Type 0) : Type 0 where
  pub connection : Held S
  pub tells : Bool
  pub refused : Bool
  pub faults : ℕ

abbrev pub sql_keeper_code : {S : Type 0} → Coded S → Coded (SqlKeeperState S)
sql_keeper_code {S} store =
    code_by (Held S × (Bool × (Bool × ℕ))) (coded× (held_code store) (coded× coded_bool (coded× coded_bool coded_ℕ)))
    (λ k. (k.connection, (k.tells, (k.refused, k.faults))))
    (λ p. record { connection = p.0; tells = p.1.0; refused = p.1.1.0; faults = p.1.1.1 })
    (λ _. refl)

abbrev pub bytes_of : Value → List ℕ
bytes_of Null = []
bytes_of (Int n) = []
bytes_of (Real x) = []
bytes_of (Text text) = []
bytes_of (Blob bytes) = bytes

-- the texts of the rows of the table, where there is one
abbrev pub texts_by : List Table → List Row → List (List ℕ)
texts_by [] rows = []
texts_by (table ∷ tables) rows = map (λ row. bytes_of (column row 2)) rows

abbrev pub texts_in : Database → List (List ℕ)
texts_in db = texts_by db.schema.tables (db.trees 0)

abbrev pub told_by : Bool → Bool → Bool → Database → Option (List (List ℕ))
told_by true true true db = Some (texts_in db)
told_by true true false db = None
told_by true false is_clean db = None
told_by false is_open is_clean db = None

-- the records, where they are told: by a keeper that tells them, whose connection is open over a clean disk
abbrev pub told_records : Bool → State → Option (List (List ℕ))
told_records tells s = told_by tells s.is_open s.is_clean s.now

-- Internal: the store holds some texts; after a refusal only where the connection is still open
abbrev pub HoldsTexts : Bool → State → Type 0
HoldsTexts false s = (texts : List (List ℕ)) × Stands s texts
HoldsTexts true s = IsTrue s.is_open → (texts : List (List ℕ)) × Stands s texts
