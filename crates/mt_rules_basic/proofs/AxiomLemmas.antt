-- The strength of the systems that stand without a parent.
use Rattle.std.proofs.Common.{◌≡◌, ◌≢◌, ◌==◌, ℕ, zero, suc, ◌+◌, ◌<◌, ◌≤◌, inl, inr, cond, ltb, refl, sym, ap, ◌∙◌, subst, arith}
use Rattle.std.proofs.lemmas.Bool.{cases_lt, cases_eq, cases_order, cond-true, cond-false, lt-ltb, le-ltb, eq-eqb, ne_eqb}
use Rattle.mt_linear.specs.declared.order.Order.{Order}
use Rattle.mt_linear.proofs.Abstract.{Ops, HasFieldLaws, sum_null, mul_null, digit, field_of, field_laws}
use Rattle.mt_linear.proofs.Sums.{null_mul, sum_one}
use Rattle.mt_system.specs.Rows.{Matrices, Strength}
use Rattle.mt_system.specs.Digits.{unit}
use Rattle.mt_system.proofs.AbstractStrength.{Table, size_of, size_at, combination, HasStrength}
use Rattle.mt_system.proofs.StrengthBridge.{strength_lowered}
use Rattle.mt_system.proofs.Makes.{strength_from_digits}
use Rattle.mt_rules_basic.specs.Axioms.{IsConstant, IsIdentity, IsParity}

-- two sizes are not over the whole
size_two : (s : ℕ) (d : ℕ → ℕ) (i e : ℕ) → i < s → e < i → d i + d e ≤ size_of s d
size_two zero d i e h g = absurd (omega arith)
size_two (suc s) d i e h g = elim (cases_lt i s) [
  | inl l ↦ omega (arith, size_two s d i e l g)
  | inr l ↦ let p : s ≡ i = omega arith in subst (λ n. d n + d e ≤ size_of (suc s) d) p (omega (arith, size_at s d e (omega arith)))
]

-- where at most one row is chosen, it is of one coordinate
one_coordinate : (s : ℕ) (d : ℕ → ℕ) → size_of s d ≤ 1 → (i e : ℕ) → i < s → e < s → 0 < d i → 0 < d e → i ≡ e
one_coordinate s d size i e hi he pi pe = elim (cases_order i e) [
  | inl q ↦ q
  | inr (inl l) ↦ absurd (omega (arith, size_two s d e i he l))
  | inr (inr l) ↦ absurd (omega (arith, size_two s d i e hi l))
]

-- some size is 0 where their sum is less than their number
some_null : (s : ℕ) (d : ℕ → ℕ) → size_of s d < s → (i : ℕ) × (i < s) × (d i ≡ 0)
some_null zero d h = absurd (omega arith)
some_null (suc s) d h = elim (cases_eq (d s) 0) [
  | inl e ↦ (s, omega arith, e)
  | inr e ↦ let r : (i : ℕ) × (i < s) × (d i ≡ 0) = some_null s d (omega arith) in (r.0, let l : r.0 < s = r.1 in omega arith, r.2)
]

module _ {K : Type 0} (F : Ops K) (L : HasFieldLaws F) where
  -- in a combination that is zero, a row has coefficient zero where it has a one in a column in which the other terms are zero
  alone : (R : Table K) (s : ℕ) (d : ℕ → ℕ) (x : ℕ → ℕ → K) (i j c : ℕ) → i < s → j < d i → R i j c ≡ F.one
      → ((e f : ℕ) → e < s → f < d e → (e ≡ i → f ≢ j) → F.mul (x e f) (R e f c) ≡ F.null)
      → combination F R s d x c ≡ F.null → x i j ≡ F.null
  alone R s d x i j c hi hj one others z =
      sym (sum_one F L s i _ hi (λ e he ne. sum_null F L (d e) _ (λ f hf. others e f he hf (λ q. absurd (ne q))))
      ∙ sum_one F L (d i) j _ hj (λ f hf ne. others i f hi hf (λ q. ne))
      ∙ ap (F.mul (x i j)) one
      ∙ L.mul_one (x i j))
      ∙ z

  -- where the first row of each coordinate has a one in column 0, each row that is chosen alone is independent
  first_ones : (R : Table K) (s depth m : ℕ) → 1 ≤ m → ((i : ℕ) → R i 0 0 ≡ F.one) → HasStrength F R s depth m 1
  first_ones R s depth m h ones d le size x z i j hi hj =
      alone R s d x i j 0 hi hj (ap (λ n. R i n 0) first ∙ ones i)
      (λ e f he hf ne. absurd (ne (one_coordinate s d size e i he hi (omega arith) (omega arith)) (omega (arith, first, size_at s d e he))))
      (z 0 h)
    where
      first : j ≡ 0
      first = omega (arith, size_at s d i hi)

  -- rows where row j has a one in column j alone are independent
  units : (R : Table K) (m : ℕ) → ((i j : ℕ) → R i j j ≡ F.one) → ((i j c : ℕ) → c ≢ j → R i j c ≡ F.null) → HasStrength F R 1 m m m
  units R m ones zeros d le size x z i j hi hj =
      alone R 1 d x i j j hi hj (ones i j)
      (λ e f he hf ne. ap (F.mul (x e f)) (zeros e f j (λ q. ne (omega arith) (sym q))) ∙ mul_null F L (x e f))
      (z j (omega (arith, le i hi)))

  -- any m of m + 1 rows are independent, where each row i < m has a one in column i alone and the last has ones
  units_and_ones : (R : Table K) (m : ℕ) → ((i j : ℕ) → i < m → R i j i ≡ F.one) → ((i j c : ℕ) → i < m → c ≢ i → R i j c ≡ F.null)
      → ((i j c : ℕ) → m ≤ i → R i j c ≡ F.one) → HasStrength F R (suc m) 1 m m
  units_and_ones R m ones zeros all_ones d le size x z i j hi hj = elim (cases_lt i m) [
    | inl l ↦
        alone R (suc m) d x i j i hi hj (ones i j l)
        (λ e f he hf ne. elim (cases_lt e m) [
          | inl k ↦ off e f i k (λ q. ne (sym q) (same_row i j e f hi hj he hf))
          | inr k ↦ ap (λ y. F.mul y (R e f i)) (last e f k he hf) ∙ null_mul F L (R e f i)
        ])
        (z i l)
    | inr l ↦ last i j l hi hj
  ]
    where
      -- a coordinate without chosen rows
      free : (i : ℕ) × (i < suc m) × (d i ≡ 0)
      free = some_null (suc m) d (omega arith)

      same_row : (i j e f : ℕ) → i < suc m → j < d i → e < suc m → f < d e → f ≡ j
      same_row i j e f hi hj he hf = omega (arith, le i hi, le e he)

      off : (e f c : ℕ) → e < m → c ≢ e → F.mul (x e f) (R e f c) ≡ F.null
      off e f c l ne = ap (F.mul (x e f)) (zeros e f c l ne) ∙ mul_null F L (x e f)

      -- in column free.0 the last row has the only term
      last : (i j : ℕ) → m ≤ i → i < suc m → j < d i → x i j ≡ F.null
      last i j l hi hj =
          alone R (suc m) d x i j free.0 hi hj (all_ones i j free.0 l)
          (λ e f he hf ne. elim (cases_lt e m) [
            | inl k ↦ off e f free.0 k (λ q. let t : d free.0 ≡ d e = ap d q in omega (arith, t, free.2))
            | inr k ↦ absurd (ne (omega arith) (same_row i j e f hi hj he hf))
          ])
          (z free.0 (elim (cases_lt free.0 m) [
            | inl k ↦ k
            | inr k ↦ let q : free.0 ≡ i = omega (arith, free.1) in absurd (omega (arith, ap d q, free.2))
          ]))

-- a unit vector has a one in its column
unit_one : (o : Order) (n : ℕ) → digit o (unit n n) ≡ (field_of o).one
unit_one o n = ap (digit o) (cond-true _ 1 0 (eq-eqb n n refl))

-- and zeros in the others
unit_null : (o : Order) (n c : ℕ) → c ≢ n → digit o (unit n c) ≡ (field_of o).null
unit_null o n c ne = ap (digit o) (cond-false _ 1 0 (ne_eqb c n ne))

-- a choice of no rows is independent
pub least_strength : (a : Matrices) → Strength a 0
least_strength a = strength_lowered a 0 (λ d le size x z i j h g. absurd (omega (arith, size_at a.coordinates d i h)))

-- at most one row is chosen, which is the first unit vector
pub constant_strength : (a : Matrices) (o : Order) (m s d : ℕ) → 1 ≤ m → IsConstant o m s d a → Strength a 1
constant_strength a o m s d h made =
    strength_from_digits a o m s d _ 1 made (first_ones (field_of o) (field_laws o) (λ i j c. digit o (cond (j == 0) (unit 0 c) 0)) s d m h (λ i. refl))

-- the unit vectors are independent
pub identity_strength : (a : Matrices) (o : Order) (m : ℕ) → IsIdentity o m a → Strength a m
identity_strength a o m made =
    strength_from_digits a o m 1 m _ m made
    (units (field_of o) (field_laws o) _ m (λ i j. unit_one o j) (λ i j c ne. unit_null o j c ne))

-- the unit vectors and their sum, without any one of them, are independent
pub parity_strength : (a : Matrices) (o : Order) (m : ℕ) → IsParity o m a → Strength a m
parity_strength a o m made =
    strength_from_digits a o m (suc m) 1 _ m made
    (units_and_ones (field_of o) (field_laws o) _ m
    (λ i j l. ap (digit o) (cond-true (ltb i m) _ _ (lt-ltb i m l)) ∙ unit_one o i)
    (λ i j c l ne. ap (digit o) (cond-true (ltb i m) _ _ (lt-ltb i m l)) ∙ unit_null o i c ne)
    (λ i j c l. ap (digit o) (cond-false (ltb i m) _ _ (le-ltb i m l))))
