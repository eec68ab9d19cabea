-- Numbers among the parts of a path.
use Rattle.std.proofs.Common.{◌≡◌, ◌≢◌, ℕ, ◌^◌, ◌<◌, List, [], ◌∷◌, length, decimal, sym, ◌∙◌, subst, refl, take, drop, cond, true, false, ◌&&◌, leb, ◌-◌}
use Rattle.std.specs.Prelude.{Option, None, Some, MatchOption, IfSome, IfNone, IsAscii, IsUtf8}
use Rattle.std.proofs.lemmas.Str.{IsUtf8-from_ascii, IsAscii-take, IsAscii-drop}
use Rattle.matchit.specs.Params.{walk, part_of}
use Rattle.mt_http.specs.Addresses.{Pairs, ArePartsAscii, IsNumberFirst}

part_is : (old new : Pairs) (part : List ℕ) (x : List ℕ × List ℕ) → old ≡ x ∷ new → (IsUtf8 x.1 → part ≡ x.1) → ArePartsAscii old → part ≡ x.1
part_is old new part x e shows ascii = shows (IsUtf8-from_ascii x.1 (subst ArePartsAscii e ascii).0)

pub number_found : (old new : Pairs) (part : List ℕ) (x : List ℕ × List ℕ) (n : ℕ) → old ≡ x ∷ new → (IsUtf8 x.1 → part ≡ x.1) → ArePartsAscii old
    → (n < 2 ^ 64) × (part ≡ decimal n) → IsNumberFirst old n new
number_found old new part x n e shows ascii h =
    subst (λ (o : Pairs). IsNumberFirst o n new) (sym e) (h.0, sym (part_is old new part x e shows ascii) ∙ h.1, refl)

pub number_missing : (old new : Pairs) (part : List ℕ) (x : List ℕ × List ℕ) → old ≡ x ∷ new → (IsUtf8 x.1 → part ≡ x.1) → ArePartsAscii old
    → ((n : ℕ) → n < 2 ^ 64 → part ≢ decimal n) → (n : ℕ) (rest : Pairs) → IsNumberFirst old n rest → ⊥
number_missing old new part x e shows ascii none n rest h =
    let is = subst (λ (o : Pairs). IsNumberFirst o n rest) e h in
    none n is.0 (part_is old new part x e shows ascii ∙ is.1)

-- the two answers of a call
pub found_by : (old new : Pairs) (part : List ℕ) (x : List ℕ × List ℕ) → old ≡ x ∷ new → (IsUtf8 x.1 → part ≡ x.1) → ArePartsAscii old
    → (r : Option ℕ) → MatchOption r ((n : ℕ) → n < 2 ^ 64 → part ≢ decimal n) (λ n. (n < 2 ^ 64) × (part ≡ decimal n))
    → IfSome r (λ n. IsNumberFirst old n new)
found_by old new part x e shows ascii None h = tt
found_by old new part x e shows ascii (Some n) h = number_found old new part x n e shows ascii h

pub missing_by : (old new : Pairs) (part : List ℕ) (x : List ℕ × List ℕ) → old ≡ x ∷ new → (IsUtf8 x.1 → part ≡ x.1) → ArePartsAscii old
    → (r : Option ℕ) → MatchOption r ((n : ℕ) → n < 2 ^ 64 → part ≢ decimal n) (λ n. (n < 2 ^ 64) × (part ≡ decimal n))
    → IfNone r ((n : ℕ) (rest : Pairs) → ¬ IsNumberFirst old n rest)
missing_by old new part x e shows ascii None h = number_missing old new part x e shows ascii h
missing_by old new part x e shows ascii (Some n) h = tt

-- a part of a path is ASCII where the path is
part_ascii : (path : List ℕ) (start end : ℕ) → IsAscii path → IsAscii (part_of path start end)
part_ascii path start end h =
    elim (leb start end && leb end (length path)) as (λ b. IsAscii (cond b (take (end - start) (drop start path)) [])) [
      | true ↦ IsAscii-take (drop start path) (end - start) (IsAscii-drop path start h)
      | false ↦ IsAscii-take path 0 h
    ]

pub parts_ascii : (pattern text path : List ℕ) (names : List (ℕ × ℕ)) (token at : ℕ) → IsAscii path → ArePartsAscii (walk pattern text path names token at)
parts_ascii pattern text path [] token at h = tt
parts_ascii pattern text path (name ∷ rest) token at h =
    (part_ascii path _ _ h, parts_ascii pattern text path rest _ _ h)

pub utf8_from_ascii : (bytes : List ℕ) → IsAscii bytes → IsUtf8 bytes
utf8_from_ascii bytes h = IsUtf8-from_ascii bytes h
