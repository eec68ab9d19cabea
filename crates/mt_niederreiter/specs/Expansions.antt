-- Niederreiter's rows (Niederreiter, 1988).
use Rattle.std.specs.Prelude.{◌≡◌, ℕ, suc, ◌+◌, ◌-◌, ◌*◌, ◌/◌, ◌%◌, ◌<◌, ◌≤◌, ◌==◌, cond, List, [], length, take, get_or, slice_index}
use Rattle.std.specs.List.{sum_by}
use Rattle.mt_linear.specs.declared.order.Order.{Order}
use Rattle.mt_linear.specs.Field.{mul_of}
use Rattle.mt_linear.specs.Linear.{AllElements}
use Rattle.mt_system.specs.Rows.{Matrices, row_of}
use Rattle.mt_poly.specs.Polynomials.{sum_to, IsPower}

-- w begins the expansion of N / D in powers of 1/x, for D of degree n: w has the coefficients of x^-1, x^-2, ..
pub record Expands (o : Order) (N : ℕ → ℕ) (D : List ℕ) (n : ℕ) (w : List ℕ) : Type 0 where
  pub elements : AllElements o w
  pub long : n ≤ length w
  -- the product with D has no negative powers of x
  pub recurrence : (l : ℕ) → l + suc n ≤ length w → sum_to o (suc n) (λ j. mul_of o (slice_index D j) (slice_index w (l + j))) ≡ 0
  -- and its coefficient of x^c is that of N
  pub numerator : (c : ℕ) → c < n → sum_to o (n - c) (λ i. mul_of o (slice_index D (c + 1 + i)) (slice_index w i)) ≡ N c

-- the coefficients of x^u
abbrev pub monomial : ℕ → ℕ → ℕ
monomial u c = cond (c == u) 1 0

-- row j, counted from 0, of a polynomial p of degree e: the first m coefficients of x^u / p^(Q + 1), where j = Q * e + u and u < e
pub record IsRow (o : Order) (p : List ℕ) (e j m : ℕ) (row : List ℕ) : Type 0 where
  pub power : List ℕ
  pub is_power : IsPower o p (suc (j / e)) power
  pub terms : List ℕ
  pub expands : Expands o (monomial (j % e)) power (suc (j / e) * e) terms
  pub enough : m ≤ length terms
  pub row_is : row ≡ take m terms

abbrev pub degree_of : List ℕ → ℕ
degree_of p = length p - 1

-- the square matrices of m columns of these polynomials, one for each
pub record IsNiederreiter (o : Order) (m : ℕ) (ps : List (List ℕ)) (a : Matrices) : Type 0 where
  pub order : a.order ≡ o
  pub columns : a.columns ≡ m
  pub coordinates : a.coordinates ≡ length ps
  pub depth : a.depth ≡ m
  pub rows : (i j : ℕ) → i < length ps → j < m → IsRow o (get_or ps i []) (degree_of (get_or ps i [])) j m (row_of a i j)

-- the sum of the degrees less 1
abbrev pub quality_of : List (List ℕ) → ℕ
quality_of ps = sum_by (λ p. degree_of p - 1) ps
