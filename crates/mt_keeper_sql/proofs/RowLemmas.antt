-- Rows that are records.
use Rattle.std.proofs.Common.{◌≡◌, ℕ, ◌+◌, ◌<◌, pos, List, [], ◌∷◌, ◌++◌, length, take, get_or, refl, subst, arith}
use Rattle.std.proofs.lemmas.List.{take_more}
use Rattle.sqlite.specs.Order.{Row, column}
use Rattle.sqlite.specs.declared.types.Value.TheVariants.{Int, Blob}
use Rattle.mt_keeper_sql.specs.Rows.{IsRecord, AreRecords}
use Rattle.mt_keeper_sql.specs.Store.{shown_rows}

records_push : (n k : ℕ) (rows : List Row) (texts : List (List ℕ)) (row : Row) (text : List ℕ) → AreRecords n rows texts → k ≡ n + length texts → IsRecord k row text → AreRecords n (rows ++ row ∷ []) (texts ++ text ∷ [])
records_push n k [] [] row text all e h = (subst (λ m. IsRecord m row text) (omega arith) h, tt)
records_push n k [] (t ∷ texts) row text all e h = absurd all
records_push n k (r ∷ rows) [] row text all e h = absurd all
records_push n k (r ∷ rows) (t ∷ texts) row text all e h = (all.0, records_push (n + 1) k rows texts row text all.1 (omega arith) h)

-- one record more
pub records_more : (rows : List Row) (texts : List (List ℕ)) (i n : ℕ) (d row : Row) (text : List ℕ) → i < length rows → AreRecords 1 (take i rows) texts → n ≡ length texts + 1 → row ≡ get_or rows i d
    → column row 0 ≡ Int (pos n) → column row 1 ≡ Blob text → AreRecords 1 (take (i + 1) rows) (texts ++ text ∷ [])
records_more rows texts i n d row text h all e is number bytes =
    rw (take_more rows i d h) (subst (λ r. AreRecords 1 (take i rows ++ r ∷ []) (texts ++ text ∷ [])) is (records_push 1 n (take i rows) texts row text all (omega arith) (record { number = number; text = bytes })))

-- rows have the texts of one list
pub records_are : (n : ℕ) (texts read : List (List ℕ)) → AreRecords n (shown_rows n texts) read → read ≡ texts
records_are n [] [] all = refl
records_are n [] (r ∷ read) all = absurd all
records_are n (t ∷ texts) [] all = absurd all
records_are n (t ∷ texts) (r ∷ read) all =
    let same = all.0.text in
    let first : r ≡ t = cc in
    let rest = records_are (n + 1) texts read all.1 in
    cc
