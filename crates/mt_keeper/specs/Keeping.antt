-- What a load and a put do to the records of a keeper, where it tells them.
use Rattle.std.specs.Prelude.{◌≡◌, ℕ, ◌+◌, List, [], ◌∷◌, ◌++◌, length, map, Option, None, Some, Result, IfOk, MatchResult}
use Rattle.std.specs.declared.vec.Vec.{Vec}

-- the bytes of texts
abbrev pub texts_of : {A : Type 0} → List (Vec ℕ A) → List (List ℕ)
texts_of texts = map (λ t. t.items) texts

-- the number of the record to come
abbrev pub IsNext : Option (List (List ℕ)) → ℕ → Type 0
IsNext None number = Unit {0}
IsNext (Some records) number = number ≡ length records + 1

-- a load leaves the records, and Ok gives them; no keeper begins to tell
abbrev pub Loads : {E : Type 0} → Option (List (List ℕ)) → Option (List (List ℕ)) → Result (List (List ℕ)) E → Type 0
Loads None None result = Unit {0}
Loads None (Some after) result = ⊥
Loads (Some before) None result = Unit {0}
Loads (Some before) (Some after) result = (after ≡ before) × IfOk result (λ records. records ≡ before)

-- Ok of a put appends the text, and a refusal changes nothing; no keeper begins to tell
abbrev pub Puts : {T E : Type 0} → Option (List (List ℕ)) → Option (List (List ℕ)) → Result T E → List ℕ → Type 0
Puts None None result text = Unit {0}
Puts None (Some after) result text = ⊥
Puts (Some before) None result text = Unit {0}
Puts (Some before) (Some after) result text =
    MatchResult result (λ _. after ≡ before ++ text ∷ []) (λ _. after ≡ before)
