-- The list of pairwise coprime monic polynomials.
use Rattle.std.specs.Prelude.{ℕ, ◌+◌, ◌*◌, ◌<◌, ◌≤◌, List, [], ◌∷◌, length, take, get_or, All}
use Rattle.mt_linear.specs.declared.order.Order.{Order}
use Rattle.mt_linear.specs.Field.{number_of}
use Rattle.mt_poly.specs.Polynomials.{IsMember, IsCoprime}

-- the number whose digits in base q are the coefficients, the constant lowest
abbrev pub number_by : ℕ → List ℕ → ℕ
number_by q [] = 0
number_by q (x ∷ p) = x + q * number_by q p

-- it may follow the kept ones: monic, of degree 1 or more, and coprime to each
abbrev pub MayFollow : Order → List (List ℕ) → List ℕ → Type 0
MayFollow o kept p = IsMember o p × All (λ k. IsCoprime o k p) kept

-- none that may follow the kept ones has a lesser number
abbrev pub IsLeast : Order → List (List ℕ) → List ℕ → Type 0
IsLeast o kept p = (r : List ℕ) → MayFollow o kept r → number_by (number_of o) p ≤ number_by (number_of o) r

-- the one with the least number that may follow the kept ones
pub record IsNext (o : Order) (kept : List (List ℕ)) (p : List ℕ) : Type 0 where
  pub follows : MayFollow o kept p
  pub least : IsLeast o kept p

-- each is the next after those before it
abbrev pub IsCoprimeList : Order → List (List ℕ) → Type 0
IsCoprimeList o ps = (n : ℕ) → n < length ps → IsNext o (take n ps) (get_or ps n [])
