-- The names of generated claims.
use Rattle.std.proofs.Common.{◌≡◌, ℕ, ◌+◌, ◌-◌, ◌^◌, ◌<◌, ◌≤◌, [], ◌∷◌, ◌++◌, length, get_or, codes, decimal, All, Contains, refl, subst, arith, lit<, below_none, below_more, length-append}
use Rattle.std.proofs.lemmas.Fmt.{decimal_is_IsNumeral, decimal_injective, length-decimal-le}
use Rattle.std.proofs.lemmas.List.{append_cancel_left}
use Rattle.std.proofs.lemmas.List.Elements.{All-append, All-from_get_or, All-cons}
use Rattle.std.proofs.lemmas.Str.Parse.{digit_at}
use Rattle.mt_system.specs.Claims.{IsName, name_characters}
use Rattle.mt_gen.specs.Generated.{name_of}

-- the digits stand behind the 26 letters
digit_character : (d : ℕ) → d < 10 → Contains name_characters (48 + d)
digit_character =
    let P : ℕ → Type 0 = λ d. Contains name_characters (48 + d) in
    below_more P 9 (below_more P 8 (below_more P 7 (below_more P 6 (below_more P 5
    (below_more P 4 (below_more P 3 (below_more P 2 (below_more P 1 (below_more P 0 (below_none P)
    (26, lit< tt, refl)) (27, lit< tt, refl)) (28, lit< tt, refl)) (29, lit< tt, refl)) (30, lit< tt, refl))
    (31, lit< tt, refl)) (32, lit< tt, refl)) (33, lit< tt, refl)) (34, lit< tt, refl)) (35, lit< tt, refl)

decimal_characters : (n : ℕ) → n < 2 ^ 64 → All (λ b. Contains name_characters b) (decimal n)
decimal_characters n h = All-from_get_or (λ b. Contains name_characters b) (decimal n) 0 (λ i l.
    let b : ℕ = get_or (decimal n) i 0 in
    let digit = digit_at (decimal n) i (decimal_is_IsNumeral n h).0.1 l in
    let e : 48 + (b - 48) ≡ b = omega (arith, digit.0) in
    subst (λ c. Contains name_characters c) e (digit_character (b - 48) (omega (arith, digit.0, digit.1))))

g_character : Contains name_characters 103
g_character = (6, lit< tt, refl)

dash_character : Contains name_characters 45
dash_character = (36, lit< tt, refl)

pub IsName-name_of : (seed number : ℕ) → seed < 2 ^ 64 → number < 2 ^ 32 → IsName (name_of seed number)
IsName-name_of seed number s n =
    let P : ℕ → Type 0 = λ b. Contains name_characters b in
    let first : length (decimal seed) ≤ 20 = length-decimal-le 20 seed (omega arith) (omega arith) s in
    let second : length (decimal number) ≤ 10 = length-decimal-le 10 number (omega arith) (omega arith) (omega arith) in
    let tail : length (decimal seed ++ 45 ∷ decimal number) ≡ length (decimal seed) + length (45 ∷ decimal number) = length-append (decimal seed) (45 ∷ decimal number) in
    let all : length (name_of seed number) ≡ 2 + (length (decimal seed) + (1 + length (decimal number))) = omega (arith, tail) in
    record {
      some = omega (arith, all);
      few = omega (arith, all, first, second);
      characters = All-cons P 103 (45 ∷ (decimal seed ++ 45 ∷ decimal number)) g_character
          (All-cons P 45 (decimal seed ++ 45 ∷ decimal number) dash_character
          (All-append P (decimal seed) (45 ∷ decimal number) (decimal_characters seed s)
          (All-cons P 45 (decimal number) dash_character (decimal_characters number (omega arith)))));
    }

-- different numbers have different names
pub name_of-injective : (seed i j : ℕ) → i < 2 ^ 32 → j < 2 ^ 32 → name_of seed i ≡ name_of seed j → i ≡ j
name_of-injective seed i j a b e =
    decimal_injective i j (omega arith) (omega arith)
    (append_cancel_left (45 ∷ []) (decimal i) (decimal j)
    (append_cancel_left (decimal seed) (45 ∷ decimal i) (45 ∷ decimal j)
    (append_cancel_left (codes "g-") (decimal seed ++ 45 ∷ decimal i) (decimal seed ++ 45 ∷ decimal j) e)))
