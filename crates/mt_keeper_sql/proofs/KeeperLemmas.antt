-- What a keeper tells after a load and after a put.
use Rattle.std.proofs.Common.{◌≡◌, inl, inr, ℕ, ◌+◌, Bool, true, false, List, [], ◌∷◌, ◌++◌, length, map, Option, None, Some, Result, Ok, Err, IsTrue, refl, sym, ap, subst}
use Rattle.std.specs.Prelude.{◌&&◌, not, MatchResult, IfOk}
use Rattle.sqlite.specs.Effect.{Database}
use Rattle.sqlite.specs.State.{State, HasCleanDisk}
use Rattle.sqlite.specs.Held.{state}
use Rattle.sqlite.specs.Order.{column}
use Rattle.sqlite.specs.Store.{Ghosts}
use Rattle.sqlite_trees.proofs.Doubt.{clean_of, no_doubt}
use Rattle.mt_keeper.specs.Keeping.{IsNext, Loads, Puts}
use Rattle.mt_keeper_sql.specs.Keepers.{SqlKeeperState, HoldsTexts, texts_in, bytes_of, told_by, told_records}
use Rattle.mt_keeper_sql.specs.Standing.{Stands, Leaves}
use Rattle.mt_keeper_sql.specs.Store.{Holds, stored_rows}

texts_stored : (n : ℕ) (texts : List (List ℕ)) → map (λ row. bytes_of (column row 2)) (stored_rows n texts) ≡ texts
texts_stored n [] = refl
texts_stored n (text ∷ texts) = ap (λ l. text ∷ l) (texts_stored (n + 1) texts)

texts_held : (db : Database) (texts : List (List ℕ)) → Holds db texts → texts_in db ≡ texts
texts_held db texts (inl table) = rw (table.schema, table.rows) (texts_stored 1 texts)
texts_held db texts (inr none) = rw none.0 (sym none.1)

-- ---- what is told

loads_silent : {E : Type 0} (before : Option (List (List ℕ))) (r : Result (List (List ℕ)) E) → Loads before None r
loads_silent None r = tt
loads_silent (Some list) r = tt

puts_silent : {T E : Type 0} (before : Option (List (List ℕ))) (r : Result T E) (text : List ℕ) → Puts before None r text
puts_silent None r text = tt
puts_silent (Some list) r text = tt

loads_by : {E : Type 0} (before : Option (List (List ℕ))) (tells is_open is_clean : Bool) (db : Database) (r : Result (List (List ℕ)) E)
    → (tells ≡ true → is_open ≡ true → is_clean ≡ true → (texts : List (List ℕ)) × (before ≡ Some texts) × (texts_in db ≡ texts) × IfOk r (λ records. records ≡ texts))
    → Loads before (told_by tells is_open is_clean db) r
loads_by before true true true db r h = let k = h refl refl refl in subst (λ b. Loads b (Some (texts_in db)) r) (sym k.1) (k.2, k.3)
loads_by before true true false db r h = loads_silent before r
loads_by before true false is_clean db r h = loads_silent before r
loads_by before false is_open is_clean db r h = loads_silent before r

puts_by : {T E : Type 0} (before : Option (List (List ℕ))) (tells is_open is_clean : Bool) (db : Database) (r : Result T E) (text : List ℕ)
    → (tells ≡ true → is_open ≡ true → is_clean ≡ true → (texts : List (List ℕ)) × (before ≡ Some texts) × MatchResult r (λ _. texts_in db ≡ texts ++ text ∷ []) (λ _. texts_in db ≡ texts))
    → Puts before (told_by tells is_open is_clean db) r text
puts_by before true true true db r text h = let k = h refl refl refl in subst (λ b. Puts b (Some (texts_in db)) r text) (sym k.1) k.2
puts_by before true true false db r text h = puts_silent before r text
puts_by before true false is_clean db r text h = puts_silent before r text
puts_by before false is_open is_clean db r text h = puts_silent before r text

told_before : (tells : Bool) (s : State) (texts : List (List ℕ)) → IsTrue tells → IsTrue s.is_open → HasCleanDisk s → Stands s texts → told_records tells s ≡ Some texts
told_before tells s texts t o c stands = rw (t, o, clean_of s.is_clean c) (ap Some (texts_held s.now texts stands.holds))

-- what one call knows that tells at its end: it told before, and what was read left the texts
abbrev pub Told : Bool → State → Bool → State → (List (List ℕ) → Type 0) → Type 0
Told tells old tells' new P = IsTrue tells' → HasCleanDisk new → IsTrue tells × HasCleanDisk old × ((texts : List (List ℕ)) × Stands old texts × P texts)

-- what an insertion leaves
abbrev pub Added : {T E : Type 0} → State → State → ℕ → List (List ℕ) → List ℕ → Result T E → Type 0
Added old new number texts text r =
    MatchResult r (λ _. IsTrue old.is_open × (number ≡ length texts + 1 → Leaves old new (texts ++ text ∷ []))) (λ _. IsTrue new.is_open → Leaves old new texts)

module _ (tells tells' : Bool) (old new : State) where
  after_load : {E : Type 0} (r : Result (List (List ℕ)) E) (texts : List (List ℕ)) → MatchResult r (λ records. Leaves old new texts × (records ≡ texts)) (λ _. IsTrue new.is_open → Leaves old new texts) → IsTrue new.is_open
      → Leaves old new texts × IfOk r (λ records. records ≡ texts)
  after_load (Ok records) texts m o = m
  after_load (Err e) texts m o = (m o, tt)

  pub loads : {E : Type 0} (r : Result (List (List ℕ)) E) → Told tells old tells' new (λ texts. MatchResult r (λ records. Leaves old new texts × (records ≡ texts)) (λ _. IsTrue new.is_open → Leaves old new texts))
      → Loads (told_records tells old) (told_records tells' new) r
  loads r h = loads_by (told_records tells old) tells' new.is_open new.is_clean new.now r (λ t o c.
      let k = h t (no_doubt new.is_clean c) in
      let texts = k.2.0 in
      let after = after_load r texts k.2.2 o in
      (texts, told_before tells old texts k.0 after.0.was_open k.1 k.2.1, texts_held new.now texts after.0.stands.holds, after.1))

  after_put : {T E : Type 0} (r : Result T E) (number : ℕ) (texts : List (List ℕ)) (text : List ℕ) → IsNext (told_records tells old) number → IsTrue tells → HasCleanDisk old → Stands old texts
      → Added old new number texts text r → IsTrue new.is_open → IsTrue old.is_open × MatchResult r (λ _. texts_in new.now ≡ texts ++ text ∷ []) (λ _. texts_in new.now ≡ texts)
  after_put (Ok x) number texts text next t c stands m o =
      (m.0, texts_held new.now _ (m.1 (subst (λ b. IsNext b number) (told_before tells old texts t m.0 c stands) next)).stands.holds)
  after_put (Err e) number texts text next t c stands m o = ((m o).was_open, texts_held new.now _ (m o).stands.holds)

  pub puts : {T E : Type 0} (r : Result T E) (number : ℕ) (text : List ℕ) → IsNext (told_records tells old) number
      → Told tells old tells' new (λ texts. Added old new number texts text r) → Puts (told_records tells old) (told_records tells' new) r text
  puts r number text next h = puts_by (told_records tells old) tells' new.is_open new.is_clean new.now r text (λ t o c.
      let k = h t (no_doubt new.is_clean c) in
      let texts = k.2.0 in
      let after = after_put r number texts text next k.0 k.1 k.2.1 k.2.2 o in
      (texts, told_before tells old texts k.0 after.0 k.1 k.2.1, after.1))

-- ---- one call of a keeper, which begins by what the last one left

and_left : (a b : Bool) → IsTrue (a && b) → IsTrue a
and_left true b h = refl
and_left false b h = h

module _ {S : Type 0} (g : Ghosts S) (before inside : SqlKeeperState S) (begun : inside ≡ record before { tells = before.tells && not before.refused; refused = false })
    (invariant : IsTrue inside.tells → HasCleanDisk (state g inside.connection) → HoldsTexts inside.refused (state g inside.connection)) (new : State)
    (clean : HasCleanDisk new → HasCleanDisk (state g inside.connection)) where
  same : inside.connection ≡ before.connection
  same = ap (λ (k : SqlKeeperState S). k.connection) begun

  told_with : (P : List (List ℕ) → Type 0) → (HasCleanDisk new → (texts : List (List ℕ)) → Stands (state g inside.connection) texts → P texts) → Told before.tells (state g inside.connection) inside.tells new P
  told_with P h t c =
      let s = subst (λ b. HoldsTexts b (state g inside.connection)) (ap (λ (k : SqlKeeperState S). k.refused) begun) (invariant t (clean c)) in
      (and_left before.tells (not before.refused) (subst IsTrue (ap (λ (k : SqlKeeperState S). k.tells) begun) t), clean c, (s.0, s.1, h c s.0 s.1))

  pub load_ends : {E : Type 0} (r : Result (List (List ℕ)) E)
      → (HasCleanDisk new → (texts : List (List ℕ)) → Stands (state g inside.connection) texts → MatchResult r (λ records. Leaves (state g inside.connection) new texts × (records ≡ texts)) (λ _. IsTrue new.is_open → Leaves (state g inside.connection) new texts))
      → Loads (told_records before.tells (state g before.connection)) (told_records inside.tells new) r
  load_ends r h =
      subst (λ c. Loads (told_records before.tells (state g c)) (told_records inside.tells new) r) same (loads before.tells inside.tells (state g inside.connection) new r (told_with _ h))

  module _ (number : ℕ) (text : List ℕ) (next : IsNext (told_records before.tells (state g before.connection)) number) where
    here : IsNext (told_records before.tells (state g inside.connection)) number
    here = subst (λ c. IsNext (told_records before.tells (state g c)) number) (sym same) next

    pub put_ends : {T E : Type 0} (r : Result T E) → (HasCleanDisk new → (texts : List (List ℕ)) → Stands (state g inside.connection) texts → Added (state g inside.connection) new number texts text r)
        → Puts (told_records before.tells (state g before.connection)) (told_records inside.tells new) r text
    put_ends r h =
        subst (λ c. Puts (told_records before.tells (state g c)) (told_records inside.tells new) r text) same (puts before.tells inside.tells (state g inside.connection) new r number text here (told_with _ h))

    -- the invariant after an Ok
    pub put_holds : (HasCleanDisk new → (texts : List (List ℕ)) → Stands (state g inside.connection) texts
        → IsTrue (state g inside.connection).is_open × (number ≡ length texts + 1 → Leaves (state g inside.connection) new (texts ++ text ∷ [])))
        → IsTrue inside.tells → HasCleanDisk new → HoldsTexts inside.refused new
    put_holds h t c =
        let k = told_with (λ _. Unit {0}) (λ _ _ _. tt) t c in
        let m = h c k.2.0 k.2.1 in
        let length_is = subst (λ b. IsNext b number) (told_before before.tells (state g inside.connection) k.2.0 k.0 m.0 k.1 k.2.1) here in
        subst (λ b. HoldsTexts b new) (sym (ap (λ (x : SqlKeeperState S). x.refused) begun)) (k.2.0 ++ text ∷ [], (m.1 length_is).stands)
