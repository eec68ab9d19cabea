-- The digits of all rows, one row after another.
use Rattle.std.proofs.Common.{◌≡◌, ◌≢◌, ℕ, zero, suc, ◌+◌, ◌-◌, ◌*◌, ◌/◌, ◌%◌, ◌<◌, ◌≤◌, List, [], ◌∷◌, ◌++◌, length, take, drop, get_or, map, All, inl, inr, refl, sym, ap, ◌∙◌, subst, subst₂, arith, mul_comm}
use Rattle.std.proofs.Math.Nat.{mul-le-mul_right}
use Rattle.std.proofs.lemmas.Bool.{cases_lt}
use Rattle.std.proofs.lemmas.List.{get_or-map, length-map, get_or_append_left, get_or-append_right, length-append, drop-append-le, take-append-le, length-drop, take_all}
use Rattle.std.proofs.lemmas.Nat.{div_below, mod_below, div-mul-add, mod-mul-add, mul-add-lt, div-add-mod'}
use Rattle.std.proofs.Math.Seq.{drop-append_seam}
use Rattle.mt_linear.specs.declared.order.Order.{Order}
use Rattle.mt_linear.specs.Field.{number_of}
use Rattle.mt_linear.specs.Linear.{AllElements}
use Rattle.mt_linear.proofs.FieldLaws.{number_pos, one_below}
use Rattle.mt_system.specs.Rows.{Matrices}
use Rattle.mt_poly.specs.declared.polynomials.Poly.{Poly}
use Rattle.mt_poly.specs.Polynomials.{IsPolynomial, IsMember, IsMonic, IsPower}
use Rattle.mt_poly.specs.CoprimeLists.{number_by}
use Rattle.mt_poly.proofs.NumberLemmas.{number_same}
use Rattle.mt_poly.proofs.CoprimeBridge.{power_monic}
use Rattle.mt_poly.proofs.MemberLemmas.{monic_member, positive_member}
use Rattle.mt_niederreiter.specs.Expansions.{Expands, monomial, IsRow, IsNiederreiter, degree_of}
use Rattle.mt_niederreiter.specs.Rows.{AreRows, times_over}

-- ---- members

pub polynomial_at : (items : List Poly) (i : ℕ) (p : Poly) → i < length items → p ≡ get_or items i p
    → get_or (map (λ (x : Poly). x.coefficients) items) i [] ≡ p.coefficients
polynomial_at items i p l e = get_or-map (λ (x : Poly). x.coefficients) items i p [] l ∙ ap (λ (x : Poly). x.coefficients) (sym e)

pub member_at : (o : Order) (items : List Poly) (i : ℕ) (p : Poly) → i < length items → p ≡ get_or items i p
    → All (IsMember o) (map (λ (x : Poly). x.coefficients) items) → IsMember o p.coefficients
member_at o items i p l e members =
    subst (IsMember o) (polynomial_at items i p l e) (members i [] (omega (arith, length-map items (λ (x : Poly). x.coefficients))))

-- ---- powers

-- the number 1 is the power before all others
pub one_power : (o : Order) (p r : List ℕ) → IsPolynomial o r → number_by (number_of o) r ≡ 1 → IsPower o p 0 r
one_power o p r is e = number_same (number_of o) r (1 ∷ []) (number_pos o) is.elements below (omega (arith, e))
  where
    below : AllElements o (1 ∷ [])
    below zero = one_below o
    below (suc k) = number_pos o

-- the rows before row j took this many powers
pub times_same : (j e : ℕ) → 0 < e → j % e ≡ 0 → times_over j e ≡ j / e
times_same j e h z = ap (λ k. k / e) {x = j + (e - 1)} {y = j / e * e + (e - 1)} (omega (arith, div-add-mod' j e)) ∙ div-mul-add (j / e) e (e - 1) (omega arith)

pub times_more : (j e : ℕ) → 0 < e → j % e ≢ 0 → times_over j e ≡ suc (j / e)
times_more j e h z =
    ap (λ k. k / e) {x = j + (e - 1)} {y = suc (j / e) * e + (j % e - 1)} (omega (arith, div-add-mod' j e))
    ∙ div-mul-add (suc (j / e)) e (j % e - 1) (omega arith)

pub times_none : (e : ℕ) → 0 < e → times_over 0 e ≡ 0
times_none e h = let k : (0 + (e - 1)) / e < 1 = div_below (0 + (e - 1)) e 1 h (omega arith) in omega arith

pub times_next : (j e : ℕ) → 0 < e → times_over (j + 1) e ≡ suc (j / e)
times_next j e h =
    ap (λ k. k / e) {x = j + 1 + (e - 1)} {y = suc (j / e) * e + j % e} (omega (arith, div-add-mod' j e))
    ∙ div-mul-add (suc (j / e)) e (j % e) (omega arith)

module _ (o : Order) (p : List ℕ) (j : ℕ) (D : List ℕ) (member : IsMember o p) (is : IsPolynomial o D) (power : IsPower o p (suc (j / degree_of p)) D) where
  degree_is : length D ≡ suc (suc (j / degree_of p) * degree_of p)
  degree_is = (power_monic o p (degree_of p) (suc (j / degree_of p)) D (monic_member o p member) is power).0

  pub power_lead : IsMonic D (length D - 1)
  power_lead =
      subst (IsMonic D) (omega (arith, degree_is)) (power_monic o p (degree_of p) (suc (j / degree_of p)) D (monic_member o p member) is power)

  pub power_above : j % degree_of p < length D - 1
  power_above =
      let n : suc (j / degree_of p) * degree_of p ≡ degree_of p + j / degree_of p * degree_of p = omega arith in
      omega (arith, degree_is, mod_below j (degree_of p) (positive_member o p member))

  -- it gives the row
  pub power_row : (m u : ℕ) (w : List ℕ) → u ≡ j % degree_of p → Expands o (monomial u) D (length D - 1) w → m ≤ length w
      → IsRow o p (degree_of p) j m (take m w)
  power_row m u w e expands enough = record {
    power = D;
    is_power = power;
    terms = w;
    expands =
        subst (λ n. Expands o (monomial (j % degree_of p)) D n w) {x = length D - 1} (omega (arith, degree_is))
        (subst (λ k. Expands o (monomial k) D (length D - 1) w) e expands);
    enough = enough;
    row_is = refl;
  }

-- ---- rows

-- row j of polynomial i
abbrev IsOwnRow : Order → ℕ → List (List ℕ) → ℕ → ℕ → List ℕ → Type 0
IsOwnRow o m ps i j r = IsRow o (get_or ps i []) (degree_of (get_or ps i [])) j m r

pub rows_push : (o : Order) (m : ℕ) (ps : List (List ℕ)) (i j : ℕ) (ds r : List ℕ) → j < m → AreRows o m ps (i * m + j) ds
    → length r ≡ m → AllElements o r → IsOwnRow o m ps i j r → AreRows o m ps (i * m + j + 1) (ds ++ r)
rows_push o m ps i j ds r within x size elements row = record {
  size = length-append ds r ∙ (let e : length ds ≡ n * m = x.size in omega arith);
  elements = λ k. elim (cases_lt k (length ds)) [
    | inl l ↦ subst (λ y. y < number_of o) (sym (get_or_append_left ds r 0 k l)) (x.elements k)
    | inr l ↦ subst (λ y. y < number_of o) (sym (get_or-append_right ds r (length ds) k 0 refl l)) (elements (k - length ds))
  ];
  rows = λ k h. elim (cases_lt k n) [
    | inl l ↦ subst (IsOwnRow o m ps (k / m) (k % m)) (sym (old k l)) (x.rows k l)
    | inr l ↦
        let e : k ≡ n = omega arith in
        subst (λ k. IsOwnRow o m ps (k / m) (k % m) (take m (drop (k * m) (ds ++ r)))) (sym e)
        (subst₂ (λ a b. IsOwnRow o m ps a b (take m (drop (n * m) (ds ++ r)))) (sym (div-mul-add i m j within)) (sym (mod-mul-add i m j within))
        (subst (IsOwnRow o m ps i j) (sym new) row))
  ];
}
  where
    n : ℕ
    n = i * m + j

    old : (k : ℕ) → k < n → take m (drop (k * m) (ds ++ r)) ≡ take m (drop (k * m) ds)
    old k l =
        let more : suc k * m ≤ n * m = mul-le-mul_right m l in
        let all : length ds ≡ n * m = x.size in
        ap (take m) (drop-append-le (k * m) ds r (omega arith)) ∙ take-append-le m (drop (k * m) ds) r (omega (arith, length-drop (k * m) ds))

    new : take m (drop (n * m) (ds ++ r)) ≡ r
    new =
        ap (λ k. take m (drop k (ds ++ r))) (sym x.size)
        ∙ ap (take m) (drop-append_seam ds r)
        ∙ take_all m r (omega arith)

-- the rows of a system
pub system_rows : (o : Order) (m s : ℕ) (ps : List (List ℕ)) (ds : List ℕ) (a : Matrices)
    → a ≡ record { order = o; columns = m; coordinates = s; depth = m; digits = ds } → length ps ≡ s → AreRows o m ps (s * m) ds → IsNiederreiter o m ps a
system_rows o m s ps ds a is size x = subst (IsNiederreiter o m ps) (sym is) (record {
  order = refl;
  columns = refl;
  coordinates = sym size;
  depth = refl;
  rows = λ i j hi hj.
      subst₂ (λ a b. IsOwnRow o m ps a b (take m (drop ((i * m + j) * m) ds))) (div-mul-add i m j hj) (mod-mul-add i m j hj)
      (x.rows (i * m + j) (subst (λ n. i * m + j < n) (mul_comm m s) (mul-add-lt i m j s (omega arith) hj)));
})
