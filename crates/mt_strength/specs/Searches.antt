-- Searches for a dependent choice, in the order of the lists of sizes.
use Rattle.std.specs.Prelude.{◌≡◌, ℕ, ◌+◌, ◌≤◌, List, [], ◌∷◌, length, sum}
use Rattle.mt_linear.specs.declared.order.Order.{Order}
use Rattle.mt_linear.specs.Linear.{Independent}
use Rattle.mt_system.specs.Choices.{AllAtMost, IsChoice, LexBefore}
use Rattle.mt_strength.specs.Verdicts.{EarlierIndependent}

-- c rows of the first coordinate, which has `first`, and cs of each of the others, which have `each`: at most n rows
pub record IsTaken (first others each n c : ℕ) (cs : List ℕ) : Type 0 where
  pub of_first : c ≤ first
  pub coordinates : length cs ≡ others
  pub at_most : AllAtMost each cs
  pub size : c + sum cs ≤ n

-- each of these choices is independent, where R gives the rows of a choice
abbrev pub AllIndependent : Order → (List ℕ → List (List ℕ)) → ℕ → ℕ → ℕ → ℕ → Type 0
AllIndependent o R first others each n = (c : ℕ) (cs : List ℕ) → IsTaken first others each n c cs → Independent o (R (c ∷ cs))

-- this one is dependent, and each of them with a lesser list is independent
pub record IsFirstTaken (o : Order) (R : List ℕ → List (List ℕ)) (first others each n c : ℕ) (cs : List ℕ) : Type 0 where
  pub taken : IsTaken first others each n c cs
  pub dependent : Independent o (R (c ∷ cs)) → ⊥
  pub earlier : (d : ℕ) (ds : List ℕ) → IsTaken first others each n d ds → LexBefore (d ∷ ds) (c ∷ cs) → Independent o (R (d ∷ ds))

abbrev pub IsFound : Order → (List ℕ → List (List ℕ)) → ℕ → ℕ → ℕ → ℕ → List ℕ → Type 0
IsFound o R first others each n [] = ⊥
IsFound o R first others each n (c ∷ cs) = IsFirstTaken o R first others each n c cs

-- of the choices of at most n rows of s coordinates with `depth` rows each, this is the one with the least list that is dependent
pub record IsFirstByList (o : Order) (s depth n : ℕ) (R : List ℕ → List (List ℕ)) (c : List ℕ) : Type 0 where
  pub choice : IsChoice s depth c
  pub size : sum c ≤ n
  pub dependent : Independent o (R c) → ⊥
  pub earlier : (d : List ℕ) → IsChoice s depth d → sum d ≤ n → LexBefore d c → Independent o (R d)

-- each choice of at most n rows of s coordinates with `depth` rows each is independent
abbrev pub AreIndependent : Order → ℕ → ℕ → ℕ → (List ℕ → List (List ℕ)) → Type 0
AreIndependent o s depth n R = (c : List ℕ) → IsChoice s depth c → sum c ≤ n → Independent o (R c)

-- this one is dependent, and each of them before it, by size and then by list, is independent
pub record IsFirstBySize (o : Order) (s depth n : ℕ) (R : List ℕ → List (List ℕ)) (c : List ℕ) : Type 0 where
  pub choice : IsChoice s depth c
  pub size : sum c ≤ n
  pub dependent : Independent o (R c) → ⊥
  pub earlier : EarlierIndependent o s depth n R c
