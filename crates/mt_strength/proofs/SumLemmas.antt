-- The lanes of sums and products, by tests that are computed over all digits.
use Rattle.std.proofs.Common.{◌≡◌, ℕ, ◌<◌, ◌&&◌, List, eqb, ltb, true, get_or, refl, sym, ap, ap₂, ◌∙◌, eqb-true, arith}
use Rattle.mt_linear.specs.declared.order.Order.{Order}
use Rattle.mt_linear.specs.declared.order.Order.TheVariants.{Q2, Q3, Q4, Q5, Q7, Q8, Q9}
use Rattle.mt_linear.specs.Field.{number_of, prime_of, add_of, mul_of}
use Rattle.mt_linear.proofs.FieldLaws.{all_below, all_below-at}
use Rattle.std.proofs.lemmas.Bool.{and_parts}
use Rattle.mt_strength.specs.Lanes.{HasLanes, IsLane, IsLanes, lane_of, digit_of, digit_at, lane_sum, lane_times_x}
use Rattle.mt_strength.proofs.LaneLemmas.{HasLanes-as}

sums_pass : (o : Order) → all_below (number_of o) (λ a. all_below (number_of o) (λ b. eqb (lane_sum o (lane_of o a) (lane_of o b)) (lane_of o (add_of o a b)))) ≡ true
unfolding add_of
sums_pass Q2 = refl
sums_pass Q3 = refl
sums_pass Q4 = refl
sums_pass Q5 = refl
sums_pass Q7 = refl
sums_pass Q8 = refl
sums_pass Q9 = refl

sum_at : (o : Order) (a b : ℕ) → a < number_of o → b < number_of o → lane_sum o (lane_of o a) (lane_of o b) ≡ lane_of o (add_of o a b)
sum_at o a b l m = eqb-true _ _ (all_below-at (number_of o) _ (all_below-at (number_of o) _ (sums_pass o) a l) b m)

pub HasLanes-sum : (o : Order) (x y r : List ℕ) → IsLanes o x → IsLanes o y → HasLanes r (λ k. lane_sum o (get_or x k 0) (get_or y k 0))
    → HasLanes r (λ k. lane_of o (add_of o (digit_at o x k) (digit_at o y k)))
HasLanes-sum o x y r hx hy h = HasLanes-as r _ (λ k. lane_of o (add_of o (digit_at o x k) (digit_at o y k))) h (λ k l.
    ap₂ (lane_sum o) (sym (hx.each k).lane) (sym (hy.each k).lane) ∙ sum_at o (digit_at o x k) (digit_at o y k) (hx.each k).element (hy.each k).element)

times_pass : (o : Order) → prime_of o < number_of o → all_below (number_of o) (λ a. eqb (lane_times_x o (lane_of o a)) (lane_of o (mul_of o (prime_of o) a))) ≡ true
unfolding mul_of
times_pass Q2 l = absurd (omega arith)
times_pass Q3 l = absurd (omega arith)
times_pass Q4 l = refl
times_pass Q5 l = absurd (omega arith)
times_pass Q7 l = absurd (omega arith)
times_pass Q8 l = refl
times_pass Q9 l = refl

pub HasLanes-times : (o : Order) (x r : List ℕ) → prime_of o < number_of o → IsLanes o x → HasLanes r (λ k. lane_times_x o (get_or x k 0))
    → HasLanes r (λ k. lane_of o (mul_of o (prime_of o) (digit_at o x k)))
HasLanes-times o x r extension hx h = HasLanes-as r _ (λ k. lane_of o (mul_of o (prime_of o) (digit_at o x k))) h (λ k l.
    ap (lane_times_x o) (sym (hx.each k).lane) ∙ eqb-true _ _ (all_below-at (number_of o) _ (times_pass o extension) (digit_at o x k) (hx.each k).element))

-- the byte of a digit stands for that digit
digits_pass : (o : Order) → all_below (number_of o) (λ a. eqb (digit_of o (lane_of o a)) a && ltb (lane_of o a) 32) ≡ true
digits_pass Q2 = refl
digits_pass Q3 = refl
digits_pass Q4 = refl
digits_pass Q5 = refl
digits_pass Q7 = refl
digits_pass Q8 = refl
digits_pass Q9 = refl

pub digit-lane : (o : Order) (a : ℕ) → a < number_of o → digit_of o (lane_of o a) ≡ a
digit-lane o a l = eqb-true _ _ (and_parts _ _ (all_below-at (number_of o) _ (digits_pass o) a l)).0

pub IsLane-lane : (o : Order) (a : ℕ) → a < number_of o → IsLane o (lane_of o a)
IsLane-lane o a l = let e = digit-lane o a l in record { element = rw e l; lane = ap (lane_of o) e }

pub lane_zero : (o : Order) → lane_of o 0 ≡ 0
lane_zero Q2 = refl
lane_zero Q3 = refl
lane_zero Q4 = refl
lane_zero Q5 = refl
lane_zero Q7 = refl
lane_zero Q8 = refl
lane_zero Q9 = refl

pub digit_zero : (o : Order) → digit_of o 0 ≡ 0
digit_zero Q2 = refl
digit_zero Q3 = refl
digit_zero Q4 = refl
digit_zero Q5 = refl
digit_zero Q7 = refl
digit_zero Q8 = refl
digit_zero Q9 = refl

pub sum_lanes : (o p : Order) (x y r s : List ℕ) → o ≡ p → r ≡ s → HasLanes s (λ k. lane_sum p (get_or x k 0) (get_or y k 0))
    → HasLanes r (λ k. lane_sum o (get_or x k 0) (get_or y k 0))
sum_lanes o p x y r s e q h = rw (e, q) h

pub times_lanes : (o p : Order) (x r s : List ℕ) → o ≡ p → r ≡ s → HasLanes s (λ k. lane_times_x p (get_or x k 0))
    → HasLanes r (λ k. lane_times_x o (get_or x k 0))
times_lanes o p x r s e q h = rw (e, q) h
