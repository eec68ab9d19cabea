-- What is kept while the rows are written.
use Rattle.std.specs.Prelude.{◌≡◌, ℕ, ◌+◌, ◌-◌, ◌*◌, ◌/◌, ◌%◌, ◌<◌, List, [], length, take, drop, get_or}
use Rattle.mt_linear.specs.declared.order.Order.{Order}
use Rattle.mt_linear.specs.Linear.{AllElements}
use Rattle.mt_niederreiter.specs.Expansions.{IsRow, degree_of}

-- the digits of n rows of m digits, of which row k is row k % m of polynomial k / m
pub record AreRows (o : Order) (m : ℕ) (ps : List (List ℕ)) (n : ℕ) (digits : List ℕ) : Type 0 where
  pub size : length digits ≡ n * m
  pub elements : AllElements o digits
  pub rows : (k : ℕ) → k < n → IsRow o (get_or ps (k / m) []) (degree_of (get_or ps (k / m) [])) (k % m) m (take m (drop (k * m) digits))

-- the least number of times e that reach d
abbrev pub times_over : ℕ → ℕ → ℕ
times_over d e = (d + (e - 1)) / e
