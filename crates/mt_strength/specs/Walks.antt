-- Rows of coordinates, laid out one after another, and the choices of at most n of them.
use Rattle.std.specs.Prelude.{◌≡◌, ◌≢◌, ℕ, zero, suc, ◌+◌, ◌*◌, ◌<◌, ◌≤◌, List, ◌∷◌, length, map}
use Rattle.mt_linear.specs.declared.order.Order.{Order}
use Rattle.mt_linear.specs.Linear.{Independent}
use Rattle.mt_linear.specs.Field.{add_of, mul_of, neg_of, inv_of}
use Rattle.mt_strength.specs.Lanes.{row_at, IsLanes, digit_of, digit_at}
use Rattle.mt_strength.specs.Pivots.{IsCleared}
use Rattle.mt_strength.specs.Searches.{IsTaken}

-- row j of coordinate i, where the first coordinate has `first` rows and each other `each`
abbrev pub place_of : ℕ → ℕ → ℕ → ℕ → ℕ
place_of first each zero j = j
place_of first each (suc i) j = first + i * each + j

-- where the rows of coordinate i begin, and how many they are
abbrev pub start_of : ℕ → ℕ → ℕ → ℕ
start_of first each zero = 0
start_of first each (suc i) = first + i * each

abbrev pub count_of : ℕ → ℕ → ℕ → ℕ
count_of first each zero = first
count_of first each (suc i) = each

pub record IsLaid (o : Order) (rows : List ℕ) (first others each : ℕ) : Type 0 where
  pub size : length rows ≡ 32 * (first + others * each)
  pub of_first : (j : ℕ) → j < first → IsLanes o (row_at rows j)
  pub of_others : (i j : ℕ) → i < others → j < each → IsLanes o (row_at rows (first + i * each + j))

-- their digits
abbrev pub digits_in : Order → List ℕ → ℕ → ℕ → ℕ → ℕ → List ℕ
digits_in o rows first each i j = map (digit_of o) (row_at rows (place_of first each i j))

-- each choice of at most n rows without a row of the first coordinate is independent
abbrev pub OthersIndependent : Order → (List ℕ → List (List ℕ)) → ℕ → ℕ → ℕ → ℕ → Type 0
OthersIndependent o R first others each n = (cs : List ℕ) → IsTaken first others each n 0 cs → Independent o (R (0 ∷ cs))

-- with this factor the first row clears a place
abbrev pub clearing : Order → List ℕ → ℕ → ℕ
clearing o rows place = neg_of o (inv_of o (digit_at o (row_at rows 0) place))

-- next has what is left of the rows that may follow the first row: kept of the first coordinate, and width of each other
pub record IsLeft (o : Order) (rows : List ℕ) (first others each place : ℕ) (next : List ℕ) (kept width : ℕ) : Type 0 where
  pub of_first : (j : ℕ) → j < kept → IsCleared o (row_at rows 0) place (clearing o rows place) (row_at rows (1 + j)) (row_at next j)
  pub of_others : (i j : ℕ) → i < others → j < width → IsCleared o (row_at rows 0) place (clearing o rows place) (row_at rows (first + i * each + j)) (row_at next (kept + i * width + j))

-- some digit is left of row j
abbrev pub SomeLeft : Order → List ℕ → ℕ → ℕ → Type 0
SomeLeft o rows place j = (k : ℕ) × (add_of o (digit_at o (row_at rows j) k) (mul_of o (mul_of o (digit_at o (row_at rows j) place) (clearing o rows place)) (digit_at o (row_at rows 0) k)) ≢ 0)

-- no digit is left of row j
abbrev pub NoneLeft : Order → List ℕ → ℕ → ℕ → Type 0
NoneLeft o rows place j = (k : ℕ) → add_of o (digit_at o (row_at rows j) k) (mul_of o (mul_of o (digit_at o (row_at rows j) place) (clearing o rows place)) (digit_at o (row_at rows 0) k)) ≡ 0

-- the row of coordinate i that may come next to the first row of all
abbrev pub next_of : ℕ → ℕ → ℕ → ℕ
next_of first each zero = 1
next_of first each (suc i) = first + i * each

-- coordinate i has such a row
abbrev pub HasNext : ℕ → ℕ → ℕ → ℕ → Type 0
HasNext first others each zero = 1 < first
HasNext first others each (suc i) = (i < others) × (0 < each)

-- something is left of each row that may come next, from coordinate `from` on
abbrev pub AreLeft : Order → List ℕ → ℕ → ℕ → ℕ → ℕ → ℕ → Type 0
AreLeft o rows first others each place from = (i : ℕ) → from ≤ i → HasNext first others each i → SomeLeft o rows place (next_of first each i)

-- nothing is left of that of coordinate i, the last such
pub record IsLastGone (o : Order) (rows : List ℕ) (first others each place i : ℕ) : Type 0 where
  pub next : HasNext first others each i
  pub gone : NoneLeft o rows place (next_of first each i)
  pub later : AreLeft o rows first others each place (i + 1)
