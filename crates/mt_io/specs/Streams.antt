-- What a read does to the bytes that are left, and a write to the bytes that were written, where an object tells them.
use Rattle.std.specs.Prelude.{◌≡◌, ℕ, ◌≤◌, List, [], ◌++◌, length, take, Option, None, Some, Result, MatchResult}

-- the first n bytes left are taken to the beginning of the buffer, and n is 0 only where none was left
pub record TakesPrefix (before after buffer : List ℕ) (n : ℕ) : Type 0 where
  pub prefix : before ≡ take n buffer ++ after
  pub none_left : n ≡ 0 → before ≡ []

-- a read: Ok(n) takes the first n bytes, an Err takes none; no object begins to tell
abbrev pub Takes : {E : Type 0} → Option (List ℕ) → Option (List ℕ) → Result ℕ E → List ℕ → Type 0
Takes None None result buffer = Unit {0}
Takes None (Some after) result buffer = ⊥
Takes (Some before) None result buffer = Unit {0}
Takes (Some before) (Some after) result buffer =
    MatchResult result (λ n. TakesPrefix before after buffer n) (λ _. after ≡ before)

-- some prefix of the bytes was appended
abbrev pub AppendsPrefix : List ℕ → List ℕ → List ℕ → Type 0
AppendsPrefix before after bytes = (n : ℕ) × (n ≤ length bytes) × (after ≡ before ++ take n bytes)

-- a write: Ok appends all bytes, an Err a prefix of them; no object begins to tell
abbrev pub Appends : {T E : Type 0} → Option (List ℕ) → Option (List ℕ) → Result T E → List ℕ → Type 0
Appends None None result bytes = Unit {0}
Appends None (Some after) result bytes = ⊥
Appends (Some before) None result bytes = Unit {0}
Appends (Some before) (Some after) result bytes =
    MatchResult result (λ _. after ≡ before ++ bytes) (λ _. AppendsPrefix before after bytes)

-- the other side of a link: its bytes, where they are told, and its count of faults
pub record Side : Type 0 where
  pub bytes : Option (List ℕ)
  pub faults : ℕ
