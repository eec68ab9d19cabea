-- What SELECT shows of the store: the records in the order of their numbers.
use Rattle.std.proofs.Common.{◌≡◌, ℕ, ◌+◌, pos, true, List, [], ◌∷◌, map, map-id, filter, Ok, Err, Result, int_cmp, IfOk, IfErr, OnErr, refl, sym, ap, subst, ◌∙◌, ◌<◌, arith}
use Rattle.std.specs.List.{AllByRecursion}
use Rattle.std.specs.Prelude.{◌<ℤ◌}
use Rattle.std.proofs.lemmas.Int.{ints}
use Rattle.sqlite.specs.Order.{Row}
use Rattle.sqlite.specs.Program.{overlay}
use Rattle.sqlite.specs.Query.{IsAnswer, output, output_cmp}
use Rattle.sqlite.specs.State.{State, Shown, ShowsRows, FailsToQuery, IsUnchanged}
use Rattle.sqlite.specs.Listing.{understood}
use Rattle.sqlite.specs.declared.error.Error.{Error}
use Rattle.sqlite.specs.declared.types.Value.TheVariants.{Null}
use Rattle.sqlite.proofs.Callers.{IsPlain, reads_as}
use Rattle.sqlite_keyed.specs.Keyed.{IsKeyedBy}
use Rattle.sqlite_typed.proofs.AnswerLemmas.{answer_by_keys, last_table, at_end}
use Rattle.sqlite_value.proofs.OrderLemmas.{value_cmp-Int, then-Equal}
use Rattle.mt_keeper_sql.specs.Standing.{Selects, Refuses}
use Rattle.mt_keeper_sql.specs.Store.{imports_schema, stored, stored_rows, shown, shown_rows, HasTable}
use Rattle.mt_keeper_sql.proofs.StandingLemmas.{unchanged_leaves, not_shown_leaves}
use Rattle.mt_keeper_sql.proofs.Texts.{select_text, query, select_is, select_plain}

-- the texts with their numbers from n on
abbrev numbered : ℕ → List (List ℕ) → List (ℕ × List ℕ)
numbered n [] = []
numbered n (text ∷ texts) = (n, text) ∷ numbered (n + 1) texts

abbrev encode : ℕ × List ℕ → Row
encode a = stored a.0 a.1

abbrev show : ℕ × List ℕ → Row
show a = shown a.0 a.1

stored_are : (n : ℕ) (texts : List (List ℕ)) → stored_rows n texts ≡ map encode (numbered n texts)
stored_are n [] = refl
stored_are n (text ∷ texts) = ap (λ rows. stored n text ∷ rows) (stored_are (n + 1) texts)

shown_are : (n : ℕ) (texts : List (List ℕ)) → map show (numbered n texts) ≡ shown_rows n texts
shown_are n [] = refl
shown_are n (text ∷ texts) = ap (λ rows. shown n text ∷ rows) (shown_are (n + 1) texts)

pos_below : (k n : ℕ) → k < n → pos k <ℤ pos n
pos_below k n h = grind (arith, ints)

all_above : (k n : ℕ) (texts : List (List ℕ)) → k < n → AllByRecursion (λ (b : ℕ × List ℕ). pos k <ℤ pos b.0) (numbered n texts)
all_above k n [] h = tt
all_above k n (text ∷ texts) h = (pos_below k n h, all_above k (n + 1) texts (omega arith))

keyed : (n : ℕ) (texts : List (List ℕ)) → IsKeyedBy (λ (a : ℕ × List ℕ). pos a.0) (numbered n texts)
keyed n [] = tt
keyed n (text ∷ texts) = (all_above n (n + 1) texts (omega arith), keyed (n + 1) texts)

filter_all : {X : Type 0} (xs : List X) → filter (λ _. true) xs ≡ xs
filter_all [] = refl
filter_all (x ∷ xs) = ap (λ l. x ∷ l) (filter_all xs)

by_number : (a b : ℕ × List ℕ) → output_cmp query (output query ([] ∷ encode a ∷ [])) (output query ([] ∷ encode b ∷ [])) ≡ int_cmp (pos a.0) (pos b.0)
by_number a b = then-Equal _ ∙ value_cmp-Int (pos a.0) (pos b.0)

shows_rows : (old new : State) (texts : List (List ℕ)) (rows : List Row) → HasTable old.now texts → Shown select_text [] old new rows → rows ≡ shown_rows 1 texts
shows_rows old new texts rows table h =
    let db = overlay old.now.trees [] in
    let got = reads_as select_text [] old new imports_schema table.schema _ select_is.0 select_plain select_is.1 rows h in
    let answer : IsAnswer query db [] rows = got.answer Null in
    let source = last_table db 0 encode (λ a. pos a.0) (numbered 1 texts) (table.rows ∙ stored_are 1 texts) (keyed 1 texts) (at_end db) in
    sym (map-id rows)
    ∙ answer_by_keys query db [] source (λ _. true) (λ a. refl) (λ r. r) show (λ a. refl) refl refl by_number rows answer
    ∙ ap (map show) (filter_all (numbered 1 texts))
    ∙ shown_are 1 texts

only_reads : (old new : State) (texts : List (List ℕ)) (rows : List Row) → HasTable old.now texts → Shown select_text [] old new rows → IsUnchanged old new
unfolding Shown
only_reads old new texts rows table h =
    let known = sym h.1.is ∙ ap (λ s. understood s select_text) table.schema in
    let bare = subst IsPlain (sym known) select_plain in
    (subst (ShowsRows old new select_text h.0 _ rows) bare.0 h.2).3

pub finds : {V : Type 0} (items : V → List Row) (old new : State) (r : Result V Error) → IfOk r (λ v. Shown select_text [] old new (items v))
    → IfOk r (λ v. Selects old new (items v))
finds items old new (Err e) h = tt
finds items old new (Ok v) h = λ texts stands table. (unchanged_leaves old new texts stands (only_reads old new texts (items v) table h), shows_rows old new texts (items v) table h)

pub not_found : {V : Type 0} (old new : State) (r : Result V Error) → IfErr r (FailsToQuery select_text [] old new) → OnErr r (Refuses old new)
not_found old new (Ok v) h = tt
not_found old new (Err e) h = λ texts stands. not_shown_leaves old new texts stands select_text [] e h
