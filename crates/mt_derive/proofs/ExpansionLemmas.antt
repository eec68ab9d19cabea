-- There are Niederreiter's matrices of each coprime list.
use Rattle.std.proofs.Common.{◌≡◌, ℕ, zero, suc, ◌+◌, ◌-◌, ◌*◌, ◌/◌, ◌%◌, ◌<◌, ◌≤◌, List, [], ◌∷◌, length, take, get_or, slice_index, inl, inr, refl, sym, ap, ap₂, ◌∙◌, subst, arith, drop, get_or-take, length-drop, mul_comm, suc-mul, mul-le-mul_right}
use Rattle.std.proofs.lemmas.Bool.{cases_eq, cond-true, cond-false, eq-eqb, ne_eqb}
use Rattle.std.proofs.lemmas.Grind.{same_number_lists}
use Rattle.std.proofs.lemmas.List.{length-take-le}
use Rattle.std.proofs.lemmas.Nat.{mod_below, mul-add-lt}
use Rattle.mt_linear.specs.declared.order.Order.{Order}
use Rattle.mt_linear.specs.Field.{number_of, mul_of}
use Rattle.mt_linear.specs.Linear.{AllElements}
use Rattle.mt_linear.proofs.FieldLaws.{number_pos, one_below, add_lt}
use Rattle.mt_linear.proofs.Abstract.{Ops, HasFieldLaws, Digit, digit, digit-of, digit-injective, field_of, field_laws, sum_of, sum_null, sum_cong, null_add, mul_null}
use Rattle.mt_linear.proofs.Sums.{null_mul, sum_split}
use Rattle.mt_system.specs.Rows.{Matrices, row_of}
use Rattle.mt_system.specs.Digits.{HasDigits}
use Rattle.mt_poly.specs.CoprimeLists.{IsCoprimeList}
use Rattle.mt_poly.specs.Polynomials.{sum_to, IsPower, IsMonic, IsMember}
use Rattle.mt_poly.proofs.Action.{poly_mul, poly_power, mark, mark_here, mark_else, act-terms}
use Rattle.mt_poly.proofs.Monic.{HasDegree, monic_power}
use Rattle.mt_poly.proofs.PolynomialBridge.{elements, element_at, digit-sum_mul, digit-product_at, numbers_of, numbers_of_in, numbers_of_at, degree_lifted}
use Rattle.mt_poly.proofs.CoprimeBridge.{power_lifted}
use Rattle.mt_poly.proofs.MemberLemmas.{monic_member, positive_member, list_members}
use Rattle.mt_niederreiter.specs.Expansions.{Expands, monomial, IsRow, degree_of}
use Rattle.mt_niederreiter.specs.Matrices.{IsMatricesOf}
use Rattle.mt_niederreiter.proofs.Expansion.{IsExpansion, expansion, expansion_is}
use Rattle.mt_derive.specs.Systems.{IsWhole}
use Rattle.mt_derive.proofs.FormulaLemmas.{listed, length_listed, listed_at, listed_in, unit_in, AreSizes, whole_from_digits}

module _ (o : Order) where
  abbrev F : Ops (Digit (number_of o))
  F = field_of o

  abbrev L : HasFieldLaws (field_of o)
  L = field_laws o

  -- there is each power
  one_in : AllElements o (1 ∷ [])
  one_in zero = one_below o
  one_in (suc k) = number_pos o

  power_of : (p : List ℕ) (n : ℕ) → (r : List ℕ) × AllElements o r × IsPower o p n r
  power_of p zero = (1 ∷ [], one_in, λ n. refl)
  power_of p (suc n) =
      let w : (r : List ℕ) × AllElements o r × IsPower o p n r = power_of p n in
      let P : List (Digit (number_of o)) = poly_mul F (elements o w.0) (elements o p) in (
        numbers_of o P,
        numbers_of_in o P,
        (w.0, w.1, w.2, λ k. digit-injective o _ _ (numbers_of_in o P k) (add_lt o _ _) (numbers_of_at o P k ∙ sym (digit-product_at o w.0 p k))),
      )

  -- ---- the first len coefficients of the expansion of x^u / D

  module _ (D : List ℕ) (n u len : ℕ) where
    abbrev v : ℕ → Digit (number_of o)
    v = expansion F (elements o D) n u

    abbrev terms : List ℕ
    terms = listed len (λ i. (v (n + i)).0)

    terms_in : AllElements o terms
    terms_in = listed_in o len (λ i. (v (n + i)).0) (λ i. (v (n + i)).1)

    term_at : (i : ℕ) → i < len → digit o (slice_index terms i) ≡ v (n + i)
    term_at i h = ap (digit o) (listed_at len (λ i. (v (n + i)).0) i h) ∙ digit-of o (v (n + i))

    -- what coefficient j of D gives to term l of the product
    abbrev part : ℕ → ℕ → Digit (number_of o)
    part l j = F.mul (get_or (elements o D) j F.null) (v (l + j))

    module _ (degree : HasDegree F (elements o D) n) (below : u < n) (long : n ≤ len) where
      is : IsExpansion F (elements o D) n u v
      is = expansion_is F L (elements o D) n u degree (omega arith)

      product_at : (l : ℕ) → sum_of F (suc n) (part l) ≡ mark F (n - suc u) l
      product_at l =
          sym (act-terms F L (elements o D) (suc n) v l (λ j g. ap (λ y. F.mul y (v (l + j))) (degree.above j g) ∙ null_mul F L (v (l + j))))
          ∙ is.product l

      recurrence : (l : ℕ) → l + suc n ≤ len → sum_to o (suc n) (λ j. mul_of o (slice_index D j) (slice_index terms (l + j))) ≡ 0
      recurrence l h = digit-injective o _ 0 (add_lt o _ _) (number_pos o) (
          digit-sum_mul o (suc n) (slice_index D) (λ j. slice_index terms (l + j))
          ∙ sum_cong F (suc n) _ _ (λ j g.
          ap₂ F.mul (sym (element_at o D j)) (term_at (l + j) (omega arith) ∙ ap v {x = n + (l + j)} {y = n + l + j} (omega arith)))
          ∙ product_at (n + l)
          ∙ mark_else F (n - suc u) (n + l) (λ q. omega arith)
          )

      numerator : (c : ℕ) → c < n → sum_to o (n - c) (λ i. mul_of o (slice_index D (c + 1 + i)) (slice_index terms i)) ≡ monomial u c
      numerator c h = digit-injective o _ _ small (unit_in o u c) (
          digit-sum_mul o (n - c) (λ i. slice_index D (c + 1 + i)) (slice_index terms)
          ∙ sum_cong F (n - c) _ (λ i. part l (c + 1 + i)) (λ i g.
          ap₂ F.mul (sym (element_at o D (c + 1 + i))) (term_at i (omega arith) ∙ ap v {x = n + i} {y = l + (c + 1 + i)} (omega arith)))
          ∙ sym (null_add F L _)
          ∙ ap (λ y. F.add y (sum_of F (n - c) (λ i. part l (c + 1 + i)))) (sym (sum_null F L (c + 1) (part l) low))
          ∙ sym (sum_split F L (c + 1) (n - c) (part l))
          ∙ ap (λ k. sum_of F k (part l)) {x = c + 1 + (n - c)} {y = suc n} (omega arith)
          ∙ product_at l
          ∙ marked
          )
        where
          l : ℕ
          l = n - suc c

          small : sum_to o (n - c) (λ i. mul_of o (slice_index D (c + 1 + i)) (slice_index terms i)) < number_of o
          small =
              let e : suc (n - suc c) ≡ n - c = omega arith in
              subst (λ k. sum_to o k (λ i. mul_of o (slice_index D (c + 1 + i)) (slice_index terms i)) < number_of o) e (add_lt o _ _)

          low : (j : ℕ) → j < c + 1 → part (n - suc c) j ≡ F.null
          low j g =
              ap (F.mul (get_or (elements o D) j F.null)) (is.start (n - suc c + j) (omega arith)) ∙ mul_null F L (get_or (elements o D) j F.null)

          marked : mark F (n - suc u) (n - suc c) ≡ digit o (monomial u c)
          marked = elim (cases_eq c u) [
            | inl e ↦ mark_here F (n - suc u) (n - suc c) (omega arith) ∙ sym (ap (digit o) (cond-true _ _ _ (eq-eqb c u e)))
            | inr e ↦ mark_else F (n - suc u) (n - suc c) (λ q. e (omega arith)) ∙ sym (ap (digit o) (cond-false _ _ _ (ne_eqb c u e)))
          ]

      expands : Expands o (monomial u) D n terms
      expands = record {
        elements = terms_in;
        long = omega (arith, length_listed len (λ i. (v (n + i)).0));
        recurrence = λ l h. recurrence l (omega (arith, h, length_listed len (λ i. (v (n + i)).0)));
        numerator = numerator;
      }

  -- ---- the rows of one polynomial

  -- the terms of the fraction of row j of p, at least m of them
  abbrev row_terms : List ℕ → ℕ → ℕ → List ℕ
  row_terms p j m =
      terms (power_of p (suc (j / degree_of p))).0 (suc (j / degree_of p) * degree_of p) (j % degree_of p) (suc (j / degree_of p) * degree_of p + m)

  row_terms_in : (p : List ℕ) (j m : ℕ) → AllElements o (row_terms p j m)
  row_terms_in p j m =
      terms_in (power_of p (suc (j / degree_of p))).0 (suc (j / degree_of p) * degree_of p) (j % degree_of p) (suc (j / degree_of p) * degree_of p + m)

  length_row_terms : (p : List ℕ) (j m : ℕ) → length (take m (row_terms p j m)) ≡ m
  length_row_terms p j m = length-take-le m (row_terms p j m) (omega (arith, size))
    where
      size : length (row_terms p j m) ≡ suc (j / degree_of p) * degree_of p + m
      size = length_listed (suc (j / degree_of p) * degree_of p + m) _

  row_is : (p : List ℕ) (j m : ℕ) (r : List ℕ) → IsMember o p → r ≡ take m (row_terms p j m) → IsRow o p (degree_of p) j m r
  row_is p j m r member same_row = record {
    power = (power_of p k).0;
    is_power = (power_of p k).2;
    terms = row_terms p j m;
    expands = expands (power_of p k).0 (k * e) (j % e) (k * e + m) degree below (omega arith);
    enough = omega (arith, length_listed (k * e + m) (λ i. (v (power_of p k).0 (k * e) (j % e) (k * e + m) (k * e + i)).0));
    row_is = same_row;
  }
    where
      e : ℕ
      e = degree_of p

      k : ℕ
      k = suc (j / degree_of p)

      monic : IsMonic p (degree_of p)
      monic = monic_member o p member

      power_degree : HasDegree F (poly_power F (elements o p) k) (k * degree_of p)
      power_degree = monic_power F L (elements o p) (degree_of p) (degree_lifted o p (degree_of p) monic) k

      same : (i : ℕ) → get_or (elements o (power_of p k).0) i F.null ≡ get_or (poly_power F (elements o p) k) i F.null
      same = power_lifted o p k (power_of p k).0 (power_of p k).2

      degree : HasDegree F (elements o (power_of p k).0) (k * degree_of p)
      degree = record { here = same (k * degree_of p) ∙ power_degree.here; above = λ i q. same i ∙ power_degree.above i q }

      below : j % degree_of p < k * degree_of p
      below =
          let q : j % degree_of p < degree_of p = mod_below j (degree_of p) (positive_member o p member) in
          let n : suc (j / degree_of p) * degree_of p ≡ degree_of p + j / degree_of p * degree_of p = omega arith in
          omega arith

-- the rows of a whole system have as many digits as it has columns
row_length : (a : Matrices) (i j : ℕ) → IsWhole a → i < a.coordinates → j < a.depth → length (row_of a i j) ≡ a.columns
row_length a i j whole hi hj = length-take-le a.columns (drop ((i * a.depth + j) * a.columns) a.digits)
    (omega (arith, length-drop ((i * a.depth + j) * a.columns) a.digits, whole.size, enough))
  where
    row : i * a.depth + j < a.coordinates * a.depth
    row = subst (λ n. i * a.depth + j < n) (mul_comm a.depth a.coordinates) (mul-add-lt i a.depth j a.coordinates hi hj)

    enough : (i * a.depth + j) * a.columns + a.columns ≤ a.coordinates * a.depth * a.columns
    enough =
        let up : suc (i * a.depth + j) * a.columns ≤ a.coordinates * a.depth * a.columns = mul-le-mul_right a.columns row in
        let next : suc (i * a.depth + j) * a.columns ≡ (i * a.depth + j) * a.columns + a.columns = suc-mul (i * a.depth + j) a.columns in
        omega (arith, up, next)

-- a coprime list has matrices
pub matrices_exist : (o : Order) (m s : ℕ) (ps : List (List ℕ)) → AreSizes m s m → IsCoprimeList o ps → length ps ≡ s
    → (a : Matrices) × IsWhole a × IsMatricesOf o m s a
matrices_exist o m s ps sizes list count = (
  made.0,
  made.1,
  record {
    polynomials = ps;
    count = count;
    list = list;
    rows = record {
      order = made.2.order;
      columns = made.2.columns;
      coordinates = made.2.coordinates ∙ sym count;
      depth = made.2.depth;
      rows = λ i j hi hj. row_is o (get_or ps i []) j m (row_of made.0 i j) (list_members o ps list i [] hi) (same i j (omega (arith, count)) hj);
    };
  },
)
  where
    made : (a : Matrices) × IsWhole a × HasDigits a o m s m (λ i j c. slice_index (row_terms o (get_or ps i []) j m) c)
    made = whole_from_digits o m s m (λ i j c. slice_index (row_terms o (get_or ps i []) j m) c) sizes (λ i j c. row_terms_in o (get_or ps i []) j m c)

    same : (i j : ℕ) → i < s → j < m → row_of made.0 i j ≡ take m (row_terms o (get_or ps i []) j m)
    same i j hi hj =
        let long : length (row_of made.0 i j) ≡ m =
        row_length made.0 i j made.1 (omega (arith, made.2.coordinates)) (omega (arith, made.2.depth)) ∙ made.2.columns in
        same_number_lists _ _ (long ∙ sym (length_row_terms o (get_or ps i []) j m)) (λ c g.
        made.2.digits i j c hi hj (omega (arith, long)) ∙ sym (get_or-take m (row_terms o (get_or ps i []) j m) c 0 (omega (arith, long))))
