-- What CREATE and INSERT do to the store.
use Rattle.std.proofs.Common.{◌≡◌, ◌⊎◌, inl, inr, ℕ, ◌+◌, pos, List, [], ◌∷◌, ◌++◌, length, Bool, true, false, cond, None, Ok, Err, Result, IsTrue, OnOk, OnErr, refl, sym, ap, subst, ◌∙◌, ◌<◌, arith, Less, Equal, Greater}
use Rattle.std.specs.Prelude.{int_lt}
use Rattle.std.proofs.lemmas.Bool.{lt-ltb}
use Rattle.sqlite_value.specs.Order.{value_cmp}
use Rattle.sqlite_value.proofs.OrderLemmas.{value_cmp-Int}
use Rattle.sqlite.specs.declared.types.Value.{Value}
use Rattle.sqlite.specs.declared.types.Value.TheVariants.{Null, Int, Blob}
use Rattle.sqlite.specs.Ops.{unary}
use Rattle.sqlite.specs.Kind.TheVariants.{Integer}
use Rattle.sqlite.specs.Source.TheVariants.{Values}
use Rattle.sqlite.specs.Command.TheVariants.{Insert, CreateTable, Nothing}
use Rattle.sqlite.specs.Edit.{edit_of, edited}
use Rattle.sqlite.specs.Cast.{cast}
use Rattle.sqlite.specs.Rowids.TheVariants.{Chosen}
use Rattle.sqlite.specs.Change.{created, next_tree}
use Rattle.sqlite.specs.Does.{Tally, Does, lacks_sequence}
use Rattle.sqlite.specs.Rows.{Written}
use Rattle.sqlite.specs.Tree.{Trees, put_row}
use Rattle.sqlite.specs.declared.error.Error.{Error}
use Rattle.sqlite.specs.Listing.{understood}
use Rattle.sqlite.specs.Effect.{Database}
use Rattle.sqlite.specs.State.{State, mode_of, Writes, ExecutesIn, Executes}
use Rattle.sqlite.proofs.Callers.{statement_of, runs_as, one_step}
use Rattle.mt_keeper_sql.specs.Standing.{Stands, Leaves, Creates, Inserts, Refuses}
use Rattle.mt_keeper_sql.specs.Store.{imports, imports_schema, no_schema, stored, stored_rows, HasTable, Holds}
use Rattle.mt_keeper_sql.proofs.StandingLemmas.{unchanged_leaves, refused_leaves, written_leaves}
use Rattle.mt_keeper_sql.proofs.Texts.{create_text, insert_text, terms, create_is, create_statement, create_plain, again_is, again_plain, insert_is, insert_plain, IsRefused, insert_nowhere}

-- a part that gave a value did not stop on the way
went : {B E R : Type 0} {b : B} {Stops : E → Type 0} → ((stop : E) × Stops stop × (Ok b ≡ Err stop)) ⊎ R → R
went (inl stopped) = absurd (let e = stopped.2 in cc)
went (inr on) = on

same_value : {B E : Type 0} {a b : B} → ◌≡◌ {A = Result B E} (Ok a) (Ok b) → a ≡ b
same_value e = cc

-- ---- CREATE

makes_table : (old new : State) (count : ℕ) → old.now.schema ≡ no_schema → Writes old new None CreateTable create_text [] count → HasTable new.now []
makes_table old new count has w =
    let all = went w.changed in
    let first = went all.1 in
    let made = first.1 in
    let both : Ok made.table ≡ Ok imports = sym made.defined ∙ create_is.1 in
    let same : made.table ≡ imports = cc in
    let schema : first.0.schema ≡ imports_schema = made.is ∙ ap (λ s. created s made.table) has ∙ ap (created no_schema) same in
    let plain : lacks_sequence first.0.schema ≡ false = ap lacks_sequence schema in
    let now : new.now ≡ first.0 = ap (λ (p : Tally × Database). p.1) (same_value all.2) ∙ same_value (rw plain at first.2) in
    record { schema = ap (λ (d : Database). d.schema) now ∙ schema; rows = ap (λ (d : Database). d.trees 0) now ∙ subst (λ s. first.0.trees (next_tree s) ≡ []) has made.empty }

pub creates : (old new : State) (r : Result ℕ Error) → Executes create_text [] old new r → OnOk r (Creates old new)
creates old new (Err e) h = tt
creates old new (Ok count) h = λ texts stands. by_holds texts stands stands.holds
  where
    by_holds : (texts : List (List ℕ)) → Stands old texts → Holds old.now texts → Leaves old new texts × HasTable new.now texts
    by_holds texts stands (inl table) =
        let same = (runs_as create_text [] old new imports_schema table.schema Nothing again_is again_plain count h).0 in
        (unchanged_leaves old new texts stands same, subst (λ db. HasTable db texts) (sym same.0.now_is) table)
    by_holds texts stands (inr none) =
        let w = subst (λ t. Writes old new None CreateTable t [] count) create_statement (runs_as create_text [] old new no_schema none.0 CreateTable create_is.0 create_plain count h) in
        let table : HasTable new.now texts = subst (HasTable new.now) (sym none.1) (makes_table old new count none.0 w) in
        (written_leaves old new texts stands None CreateTable create_text [] count texts w (inl table), table)

-- ---- INSERT

either : (b : Bool) (x : Value) → cond b x x ≡ x
either true x = refl
either false x = refl

cast_null : cast Integer Null ≡ Null
unfolding unary
cast_null = either _ Null

cast_int : (n : ℕ) → cast Integer (Int (pos n)) ≡ Int (pos n)
unfolding unary
cast_int n = either _ (Int (pos n))

less : (k n : ℕ) → k < n → value_cmp (Int (pos k)) (Int (pos n)) ≡ Less
less k n h = value_cmp-Int (pos k) (pos n) ∙ ap (λ b. cond b Less (cond (int_lt (pos n) (pos k)) Greater Equal)) below
  where
    below : int_lt (pos k) (pos n) ≡ true
    below = lt-ltb k n h

put_last : (texts : List (List ℕ)) (k n : ℕ) (text : List ℕ) → n ≡ k + length texts → put_row (stored n text) (stored_rows k texts) ≡ stored_rows k (texts ++ text ∷ [])
put_last [] k n text e = let same : n ≡ k = omega arith in rw same refl
put_last (t ∷ texts) k n text e = rw (less k n (omega arith)) (ap (λ rows. stored k t ∷ rows) (put_last texts (k + 1) n text (omega arith)))

adds_row : (old new : State) (n : ℕ) (text : List ℕ) (texts : List (List ℕ)) (count : ℕ) → HasTable old.now texts → n ≡ length texts + 1
    → (w : Writes old new None (Insert 0 (Values terms 3)) (statement_of insert_text (understood imports_schema insert_text)) (Int (pos n) ∷ Blob text ∷ []) count) → HasTable new.now (texts ++ text ∷ [])
adds_row old new n text texts count table number w =
    let params = Int (pos n) ∷ Blob text ∷ [] in
    let db = old.now.trees in
    let command = Insert 0 (Values terms 3) in
    let statement = statement_of insert_text (understood imports_schema insert_text) in
    let done = went (subst (λ s. Does old.step_limit (mode_of old) params (record old.now { schema = s }) statement None command (Ok (w.tally, new.now))) table.schema w.changed) in
    let now = ap (λ (p : Tally × Database). p.1) (same_value (went (went done.2).2).2) in
    let given = went done.1 in
    let written = went (went given.2).2 in
    let counted = went written.2 in
    let trees : done.0.trees ≡ written.0 = ap (λ (it : Written). it.trees) (same_value counted.2) ∙ same_value counted.1 in
    let rows = (one_step imports_schema _ db written.0 (edit_of db imports [] Chosen 0 given.0) refl written.1).rows in
    let edit : edited db (edit_of db imports [] Chosen 0 given.0) ≡ put_row (stored n text) (db 0) =
    ap (λ all. edited db (edit_of db imports [] Chosen 0 all)) given.1.1 ∙ rw (cast_int n, cast_null) refl in
    let last : put_row (stored n text) (db 0) ≡ stored_rows 1 (texts ++ text ∷ []) = rw table.rows (put_last texts 1 n text (omega arith)) in
    record { schema = ap (λ (d : Database). d.schema) now; rows = ap (λ (d : Database). d.trees 0) now ∙ ap (λ (t : Trees). t 0) trees ∙ rows ∙ edit ∙ last }

pub adds : (old new : State) (n : ℕ) (text : List ℕ) (r : Result ℕ Error) → Executes insert_text (Int (pos n) ∷ Blob text ∷ []) old new r
    → OnOk r (Inserts old new n text)
unfolding ExecutesIn
adds old new n text (Err e) h = tt
adds old new n text (Ok count) h = λ texts stands. by_holds texts stands stands.holds
  where
    by_holds : (texts : List (List ℕ)) → Stands old texts → Holds old.now texts → IsTrue old.is_open × (n ≡ length texts + 1 → Leaves old new (texts ++ text ∷ []))
    by_holds texts stands (inl table) =
        let params = Int (pos n) ∷ Blob text ∷ [] in
        let w = runs_as insert_text params old new imports_schema table.schema (Insert 0 (Values terms 3)) insert_is insert_plain count h in
        (w.shown.was_open, λ number. written_leaves old new texts stands None _ _ params count (texts ++ text ∷ []) w (inl (adds_row old new n text texts count table number w)))
    by_holds texts stands (inr none) = absurd (subst IsRefused (ap (λ s. understood s insert_text) (sym none.0) ∙ h.1.is) insert_nowhere)

-- ---- refusals of both

pub not_run : (old new : State) (sql : List ℕ) (params : List Value) (r : Result ℕ Error) → Executes sql params old new r → OnErr r (Refuses old new)
not_run old new sql params (Ok count) h = tt
not_run old new sql params (Err e) h = λ texts stands. refused_leaves old new texts stands sql params e h
