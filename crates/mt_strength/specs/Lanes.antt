-- Rows of up to 32 digits as vectors of bytes.
use Rattle.std.specs.Prelude.{◌≡◌, ℕ, ◌+◌, ◌-◌, ◌*◌, ◌/◌, ◌%◌, ◌<◌, List, length, take, drop, slice_index, cond, ltb, bit_and, bit_xor}
use Rattle.mt_linear.specs.declared.order.Order.{Order}
use Rattle.mt_linear.specs.declared.order.Order.TheVariants.{Q2, Q3, Q4, Q5, Q7, Q8, Q9}
use Rattle.mt_linear.specs.Field.{number_of}

-- the byte of a digit: over 9 the digit a + 3 b is kept as a + 8 b
abbrev pub lane_of : Order → ℕ → ℕ
lane_of Q9 d = d % 3 + 8 * (d / 3)
lane_of _ d = d

abbrev pub digit_of : Order → ℕ → ℕ
digit_of Q9 x = x % 8 + 3 * (x / 8)
digit_of _ x = x

-- the byte of some digit
pub record IsLane (o : Order) (x : ℕ) : Type 0 where
  pub element : digit_of o x < number_of o
  pub lane : lane_of o (digit_of o x) ≡ x

-- v has 32 lanes, and lane k holds f k
pub record HasLanes (v : List ℕ) (f : ℕ → ℕ) : Type 0 where
  pub long : length v ≡ 32
  pub each : (k : ℕ) → k < 32 → slice_index v k ≡ f k

pub record IsLanes (o : Order) (v : List ℕ) : Type 0 where
  pub long : length v ≡ 32
  pub each : (k : ℕ) → IsLane o (slice_index v k)

abbrev pub digit_at : Order → List ℕ → ℕ → ℕ
digit_at o v k = digit_of o (slice_index v k)

-- what the code computes in each lane
abbrev pub lesser : ℕ → ℕ → ℕ
lesser x y = cond (ltb x y) x y

abbrev pub fold : ℕ → ℕ → ℕ
fold p x = lesser x ((x + (256 - p)) % 256)

abbrev pub sum_of_nine : ℕ → ℕ → ℕ
sum_of_nine x y =
    let s = fold 24 ((x + y) % 256) in
    ((s + (256 - bit_and s 7)) % 256 + fold 3 (bit_and s 7)) % 256

abbrev pub times_x_of_nine : ℕ → ℕ
times_x_of_nine x = ((bit_and x 7 * 8) % 256 + fold 3 ((x / 8 + x / 8) % 256)) % 256

abbrev pub double : ℕ → ℕ → ℕ
double modulus x = lesser ((x + x) % 256) (bit_xor ((x + x) % 256) modulus)

abbrev pub lane_sum : Order → ℕ → ℕ → ℕ
lane_sum Q2 x y = bit_xor x y
lane_sum Q3 x y = fold 3 ((x + y) % 256)
lane_sum Q4 x y = bit_xor x y
lane_sum Q5 x y = fold 5 ((x + y) % 256)
lane_sum Q7 x y = fold 7 ((x + y) % 256)
lane_sum Q8 x y = bit_xor x y
lane_sum Q9 x y = sum_of_nine x y

abbrev pub lane_times_x : Order → ℕ → ℕ
lane_times_x Q2 x = x
lane_times_x Q3 x = x
lane_times_x Q4 x = double 7 x
lane_times_x Q5 x = x
lane_times_x Q7 x = x
lane_times_x Q8 x = double 11 x
lane_times_x Q9 x = times_x_of_nine x

-- the j-th 32 bytes
abbrev pub row_at : List ℕ → ℕ → List ℕ
row_at rows j = take 32 (drop (32 * j) rows)
