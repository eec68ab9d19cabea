-- A row whose multiples clear one place of other rows.
use Rattle.std.specs.Prelude.{◌≡◌, ◌≢◌, ℕ, ◌<◌, ◌≤◌, List, length}
use Rattle.mt_linear.specs.declared.order.Order.{Order}
use Rattle.mt_linear.specs.Field.{number_of, add_of, mul_of, neg_of, inv_of}
use Rattle.mt_strength.specs.Lanes.{row_at, HasLanes, IsLanes, digit_at, lane_of}

-- all multiples of v, each at its factor
pub record HasMultiples (o : Order) (v : List ℕ) (all : List ℕ) : Type 0 where
  pub size : 288 ≤ length all
  pub each : (c : ℕ) → c < number_of o → HasLanes (row_at all c) (λ k. lane_of o (mul_of o c (digit_at o v k)))

-- a place where the row v is not 0, the factor that clears it, and the multiples of v
pub record IsPivot (o : Order) (v : List ℕ) (place factor : ℕ) (all : List ℕ) : Type 0 where
  pub lanes : IsLanes o v
  pub within : place < 32
  pub some : digit_at o v place ≢ 0
  pub clears : factor ≡ neg_of o (inv_of o (digit_at o v place))
  pub multiples : HasMultiples o v all

-- w is r and that multiple of v with which it is 0 at the place
pub record IsCleared (o : Order) (v : List ℕ) (place factor : ℕ) (r w : List ℕ) : Type 0 where
  pub lanes : IsLanes o w
  pub digits : (k : ℕ) → digit_at o w k ≡ add_of o (digit_at o r k) (mul_of o (mul_of o (digit_at o r place) factor) (digit_at o v k))
