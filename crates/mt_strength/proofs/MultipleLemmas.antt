-- The multiples of a row, each made of earlier ones.
use Rattle.std.proofs.Common.{◌≡◌, ◌≢◌, inl, inr, ℕ, ◌+◌, ◌*◌, ◌<◌, ◌≤◌, ◌||◌, List, eqb, ltb, not, Bool, true, false, refl, sym, ap, ◌∙◌, arith, lt-ltb, eqb-true, replicate}
use Rattle.std.proofs.lemmas.Bool.{cases_eq, or_cases, true≢false}
use Rattle.std.proofs.Math.Nat.{mul-le-mul_left}
use Rattle.mt_linear.specs.declared.order.Order.{Order}
use Rattle.mt_linear.specs.declared.order.Order.TheVariants.{Q2, Q3, Q4, Q5, Q7, Q8, Q9}
use Rattle.mt_linear.specs.Field.{number_of, prime_of, add_of, mul_of}
use Rattle.mt_linear.proofs.FieldLaws.{all_below, all_below-at, mul_assoc, mul_lt, mul_one, mul_comm}
use Rattle.mt_linear.proofs.Combination.{zero_mul, distrib_right}
use Rattle.mt_strength.specs.Lanes.{row_at, HasLanes, IsLanes, lane_of, digit_at}
use Rattle.mt_strength.proofs.LaneLemmas.{HasLanes-as, HasLanes-splat}
use Rattle.mt_strength.proofs.SumLemmas.{lane_zero}
use Rattle.mt_strength.proofs.ByteLemmas.{digit_at-by, IsLanes-by}

-- c has h and l as digits in base prime_of
steps_pass : (o : Order) → all_below (number_of o) (λ h. all_below (prime_of o) (λ l. not (ltb (h * prime_of o + l + 1) (number_of o))
    || (eqb (l + 1) (prime_of o) || eqb (add_of o (h * prime_of o + l) 1) (h * prime_of o + l + 1)))) ≡ true
unfolding add_of
steps_pass Q2 = refl
steps_pass Q3 = refl
steps_pass Q4 = refl
steps_pass Q5 = refl
steps_pass Q7 = refl
steps_pass Q8 = refl
steps_pass Q9 = refl

powers_pass : (o : Order) → all_below (number_of o) (λ h. not (ltb (h * prime_of o) (number_of o)) || eqb (mul_of o (prime_of o) h) (h * prime_of o)) ≡ true
unfolding mul_of
powers_pass Q2 = refl
powers_pass Q3 = refl
powers_pass Q4 = refl
powers_pass Q5 = refl
powers_pass Q7 = refl
powers_pass Q8 = refl
powers_pass Q9 = refl

pub prime_from : (o : Order) → 2 ≤ prime_of o
prime_from Q2 = omega arith
prime_from Q3 = omega arith
prime_from Q4 = omega arith
prime_from Q5 = omega arith
prime_from Q7 = omega arith
prime_from Q8 = omega arith
prime_from Q9 = omega arith

not_true : (b : Bool) → not b ≡ true → b ≡ true → ⊥
not_true true e f = absurd (true≢false (sym e))
not_true false e f = absurd (true≢false (sym f))

ltb-of : (a b : ℕ) → a < b → ltb a b ≡ true
ltb-of a b l = lt-ltb a b l

sum_of_steps : (o : Order) (h l : ℕ) → h < number_of o → l < prime_of o → h * prime_of o + l + 1 < number_of o → l + 1 ≢ prime_of o
    → add_of o (h * prime_of o + l) 1 ≡ h * prime_of o + l + 1
sum_of_steps o h l hl ll small ne =
    let t = all_below-at (prime_of o) _ (all_below-at (number_of o) _ (steps_pass o) h hl) l ll in
    elim (or_cases _ _ t) [
      | inl fails ↦ absurd (not_true _ fails (ltb-of _ _ small))
      | inr rest ↦ elim (or_cases _ _ rest) [
        | inl e ↦ absurd (ne (eqb-true _ _ e))
        | inr e ↦ eqb-true _ _ e
      ]
    ]

product_of_powers : (o : Order) (h : ℕ) → h < number_of o → h * prime_of o < number_of o → mul_of o (prime_of o) h ≡ h * prime_of o
product_of_powers o h hl small =
    elim (or_cases _ _ (all_below-at (number_of o) _ (powers_pass o) h hl)) [
      | inl fails ↦ absurd (not_true _ fails (ltb-of _ _ small))
      | inr e ↦ eqb-true _ _ e
    ]

abbrev pub MultipleLanes : Order → List ℕ → List ℕ → ℕ → Type 0
MultipleLanes o v r c = HasLanes r (λ k. lane_of o (mul_of o c (digit_at o v k)))

pub zero_multiple : (o : Order) (v : List ℕ) → MultipleLanes o v (replicate 32 0) 0
zero_multiple o v = HasLanes-as (replicate 32 0) (λ k. 0) (λ k. lane_of o (mul_of o 0 (digit_at o v k))) (HasLanes-splat 0) (λ k l. sym (ap (lane_of o) (zero_mul o _) ∙ lane_zero o))

pub lanes_of_multiple : (o : Order) (v r : List ℕ) (c : ℕ) → MultipleLanes o v r c → IsLanes o r
lanes_of_multiple o v r c h = IsLanes-by o r (λ k. mul_of o c (digit_at o v k)) h (λ k. mul_lt o c _)

pub next_power : (o : Order) (v r w : List ℕ) (high low passed : ℕ) → MultipleLanes o v r (high + 1) → passed ≡ high * prime_of o + low → low + 1 ≡ prime_of o
    → passed + 1 < number_of o → HasLanes w (λ k. lane_of o (mul_of o (prime_of o) (digit_at o r k))) → MultipleLanes o v w (passed + 1)
next_power o v r w high low passed hr at full small h =
    let two = prime_from o in
    let e : (high + 1) * prime_of o ≡ passed + 1 = omega arith in
    let m : (high + 1) * 1 ≤ (high + 1) * prime_of o = mul-le-mul_left (high + 1) (let l : 1 ≤ prime_of o = omega arith in l) in
    HasLanes-as w _ (λ k. lane_of o (mul_of o (passed + 1) (digit_at o v k))) h (λ k l.
    ap (λ d. lane_of o (mul_of o (prime_of o) d)) (digit_at-by o r (λ k. mul_of o (high + 1) (digit_at o v k)) k hr (mul_lt o _ _) l)
    ∙ ap (lane_of o) (sym (mul_assoc o (prime_of o) (high + 1) (digit_at o v k))
    ∙ ap (λ c. mul_of o c (digit_at o v k)) (product_of_powers o (high + 1) (omega arith) (omega arith) ∙ e)))

pub next_sum : (o : Order) (v r w : List ℕ) (high low passed : ℕ) → IsLanes o v → MultipleLanes o v r passed → passed ≡ high * prime_of o + low → low < prime_of o → low + 1 ≢ prime_of o
    → passed + 1 < number_of o → HasLanes w (λ k. lane_of o (add_of o (digit_at o r k) (digit_at o v k))) → MultipleLanes o v w (passed + 1)
next_sum o v r w high low passed hv hr at ll ne small h =
    let two = prime_from o in
    let m : high * 1 ≤ high * prime_of o = mul-le-mul_left high (let l : 1 ≤ prime_of o = omega arith in l) in
    let e : add_of o passed 1 ≡ passed + 1 = ap (λ n. add_of o n 1) at ∙ sum_of_steps o high low (omega arith) ll (omega arith) ne ∙ ap (λ n. n + 1) (sym at) in
    HasLanes-as w _ (λ k. lane_of o (mul_of o (passed + 1) (digit_at o v k))) h (λ k l.
    let d = digit_at o v k in
    ap (λ x. lane_of o (add_of o x d)) (digit_at-by o r (λ k. mul_of o passed (digit_at o v k)) k hr (mul_lt o _ _) l)
    ∙ ap (lane_of o) (ap (add_of o (mul_of o passed d)) (sym (mul_comm o 1 d ∙ mul_one o d (hv.each k).element))
    ∙ sym (distrib_right o passed 1 d) ∙ ap (λ c. mul_of o c d) e))

pub more_multiples : (o : Order) (v w old new : List ℕ) (passed : ℕ) → ((i : ℕ) → i < passed + 1 → row_at new i ≡ row_at old i) → row_at new (passed + 1) ≡ w
    → ((c : ℕ) → c ≤ passed → MultipleLanes o v (row_at old c) c)
    → MultipleLanes o v w (passed + 1) → (c : ℕ) → c ≤ passed + 1 → MultipleLanes o v (row_at new c) c
more_multiples o v w old new passed before done each h c m =
    elim (cases_eq c (passed + 1)) [
      | inl e ↦ rw e (rw done h)
      | inr ne ↦ rw (before c (omega arith)) (each c (omega arith))
    ]
