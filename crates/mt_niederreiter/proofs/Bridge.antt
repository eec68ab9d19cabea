-- Rows of numbers are rows over the field of their order, and so Niederreiter's theorem holds of systems of numbers.
use Rattle.std.proofs.Common.{◌≡◌, ℕ, suc, ◌+◌, ◌-◌, ◌*◌, ◌/◌, ◌%◌, ◌<◌, ◌≤◌, List, [], ◌∷◌, length, get_or, slice_index, All, AllPairs, inl, inr, refl, sym, ap, ap₂, ◌∙◌, subst, subst₂, arith, get_or-take}
use Rattle.std.specs.List.{sum_by}
use Rattle.std.proofs.lemmas.Bool.{cases_eq, cases_lt, cond-true, cond-false, eq-eqb, ne_eqb}
use Rattle.std.proofs.lemmas.List.Sums.{sum_by-cons}
use Rattle.std.proofs.lemmas.Nat.{mod_below}
use Rattle.mt_linear.specs.declared.order.Order.{Order}
use Rattle.mt_linear.specs.Field.{number_of, mul_of}
use Rattle.mt_linear.proofs.Abstract.{Ops, HasFieldLaws, Digit, digit, field_of, field_laws, sum_of, sum_null, sum_cong, null_add, mul_null}
use Rattle.mt_linear.proofs.Sums.{null_mul, sum_split}
use Rattle.mt_system.specs.Rows.{Matrices, row_of}
use Rattle.mt_system.proofs.AbstractStrength.{size_of, size_first, HasSequenceStrength}
use Rattle.mt_system.proofs.Distance.{pick_low, pick_high}
use Rattle.mt_system.proofs.StrengthBridge.{table_of, sequence_lowered}
use Rattle.mt_poly.specs.Polynomials.{sum_to, IsMonic, IsMember, IsCoprime}
use Rattle.mt_poly.proofs.Action.{poly_power, act, mark, mark_here, mark_else, act-terms, act_same}
use Rattle.mt_poly.proofs.Monic.{HasDegree, monic_power}
use Rattle.mt_poly.proofs.PolynomialBridge.{elements, element_at, digit-sum_mul, degree_lifted}
use Rattle.mt_poly.proofs.CoprimeBridge.{power_lifted, apart_from_coprime}
use Rattle.mt_poly.proofs.MemberLemmas.{monic_member, positive_member}
use Rattle.mt_niederreiter.specs.Expansions.{Expands, monomial, IsRow, degree_of, quality_of}
use Rattle.mt_niederreiter.specs.Laws.{NiederreiterHolds}
use Rattle.mt_niederreiter.proofs.Expansion.{padded, expansion_begins}
use Rattle.mt_niederreiter.proofs.RowLemmas.{fraction, fraction_is, row}
use Rattle.mt_niederreiter.proofs.DegreeLemmas.{quality}

module _ (o : Order) where
  abbrev F : Ops (Digit (number_of o))
  F = field_of o

  abbrev L : HasFieldLaws (field_of o)
  L = field_laws o

  -- a list of terms
  module _ (D : List ℕ) (n u : ℕ) (w : List ℕ) (below : u < n) (x : Expands o (monomial u) D n w) where
    abbrev v : ℕ → Digit (number_of o)
    v = padded F n (λ i. digit o (slice_index w i))

    -- what coefficient j of D gives to term l of the product
    abbrev part : ℕ → ℕ → Digit (number_of o)
    part l j = F.mul (get_or (elements o D) j F.null) (v (l + j))

    -- the negative powers of x
    recurrence_lifted : (l : ℕ) → n ≤ l → l < length w → sum_of F (suc n) (part l) ≡ mark F (n - suc u) l
    recurrence_lifted l k h =
        sum_cong F (suc n) _ _ (λ j g.
        ap₂ F.mul (element_at o D j)
        (pick_high (l + j) n F.null _ (omega arith) ∙ ap (λ i. digit o (slice_index w i)) {x = l + j - n} {y = l - n + j} (omega arith)))
        ∙ sym (digit-sum_mul o (suc n) (slice_index D) (λ j. slice_index w (l - n + j)))
        ∙ ap (digit o) (x.recurrence (l - n) (omega arith))
        ∙ sym (mark_else F (n - suc u) l (λ q. omega arith))

    -- the others, of which term l is that of x^(n - l - 1)
    numerator_lifted : (l : ℕ) → l < n → sum_of F (suc n) (part l) ≡ mark F (n - suc u) l
    numerator_lifted l k =
        let e : suc n ≡ n - l + suc l = omega arith in
        ap (λ i. sum_of F i (part l)) e
        ∙ sum_split F L (n - l) (suc l) (part l)
        ∙ ap₂ F.add
        (sum_null F L (n - l) (part l) (λ j g.
        ap (F.mul (get_or (elements o D) j F.null)) (pick_low (l + j) n F.null _ (omega arith)) ∙ mul_null F L (get_or (elements o D) j F.null)))
        (sum_cong F (suc l) _ _ (λ i g.
        ap₂ F.mul
        (ap (λ j. get_or (elements o D) j F.null) {x = n - l + i} {y = c + 1 + i} (omega arith) ∙ element_at o D (c + 1 + i))
        (pick_high (l + (n - l + i)) n F.null _ (omega arith) ∙ ap (λ j. digit o (slice_index w j)) {x = l + (n - l + i) - n} {y = i} (omega arith)))
        ∙ sym (digit-sum_mul o (suc l) (λ i. slice_index D (c + 1 + i)) (slice_index w))
        ∙ ap (digit o) (ap (λ k. sum_to o k term) {x = suc l} {y = n - c} (omega arith) ∙ x.numerator c (omega arith))
        ∙ one_at)
        ∙ null_add F L _
      where
        c : ℕ
        c = n - suc l

        term : ℕ → ℕ
        term i = mul_of o (slice_index D (c + 1 + i)) (slice_index w i)

        one_at : digit o (monomial u c) ≡ mark F (n - suc u) l
        one_at = elim (cases_eq c u) [
          | inl e ↦ ap (digit o) (cond-true _ _ _ (eq-eqb c u e)) ∙ sym (mark_here F (n - suc u) l (omega arith))
          | inr e ↦ ap (digit o) (cond-false _ _ _ (ne_eqb c u e)) ∙ sym (mark_else F (n - suc u) l (λ q. e (omega arith)))
        ]

    expands_lifted : HasDegree F (elements o D) n → (l : ℕ) → l < length w → act F (elements o D) v l ≡ mark F (n - suc u) l
    expands_lifted degree l h =
        act-terms F L (elements o D) (suc n) v l (λ j g. ap (λ y. F.mul y (v (l + j))) (degree.above j g) ∙ null_mul F L (v (l + j)))
        ∙ elim (cases_lt l n) [
          | inl k ↦ numerator_lifted l k
          | inr k ↦ recurrence_lifted l k h
        ]

  -- the digits of a row of numbers are those of the row of elements
  pub row_lifted : (p : List ℕ) (e j m : ℕ) (r : List ℕ) → IsMonic p e → 0 < e → IsRow o p e j m r
      → (c : ℕ) → c < m → digit o (slice_index r c) ≡ row F (elements o p) e j c
  row_lifted p e j m r monic positive x c h =
      ap (λ y. digit o (slice_index y c)) x.row_is
      ∙ ap (digit o) (get_or-take m x.terms c 0 h)
      ∙ expansion_begins F L (poly_power F (elements o p) k) (k * e) u (length x.terms) power_degree
      (fraction F (elements o p) e (j / e) u) (λ i. digit o (slice_index x.terms i)) (fraction_is F L (elements o p) e degree positive (j / e) u)
      (λ l g.
      act_same F L (poly_power F (elements o p) k) (elements o x.power) (λ i. sym (same i)) _ l
      ∙ expands_lifted x.power (k * e) u x.terms below x.expands (record { here = same (k * e) ∙ power_degree.here; above = λ i q. same i ∙ power_degree.above i q }) l g)
      c (let q : m ≤ length x.terms = x.enough in omega arith)
    where
      k : ℕ
      k = suc (j / e)

      u : ℕ
      u = j % e

      degree : HasDegree F (elements o p) e
      degree = degree_lifted o p e monic

      same : (i : ℕ) → get_or (elements o x.power) i F.null ≡ get_or (poly_power F (elements o p) k) i F.null
      same = power_lifted o p k x.power x.is_power

      power_degree : HasDegree F (poly_power F (elements o p) k) (k * e)
      power_degree = monic_power F L (elements o p) e degree k

      below : u < k * e
      below =
          let q : j % e < e = mod_below j e positive in
          let n : suc (j / e) * e ≡ e + j / e * e = omega arith in
          omega arith

-- sizes by place and by list
size_by : {A : Type 0} (z : A) (f : A → ℕ) (xs : List A) → size_of (length xs) (λ i. f (get_or xs i z)) ≡ sum_by f xs
size_by z f [] = refl
size_by z f (x ∷ xs) = size_first (length xs) (λ i. f (get_or (x ∷ xs) i z)) ∙ ap (λ n. f x + n) (size_by z f xs) ∙ sym (sum_by-cons f x xs)

abbrev HasRows : Matrices → List (List ℕ) → Order → ℕ → Type 0
HasRows a ps o m = (i j : ℕ) → i < length ps → j < m → IsRow o (get_or ps i []) (degree_of (get_or ps i [])) j m (row_of a i j)

-- over a system's own order and columns
own_strength : (a : Matrices) (ps : List (List ℕ)) → All (IsMember a.order) ps → AllPairs (IsCoprime a.order) ps → HasRows a ps a.order a.columns
    → HasSequenceStrength (field_of a.order) (table_of a) (length ps) a.columns (a.columns - quality_of ps)
own_strength a ps members coprime rows =
    subst (λ t. HasSequenceStrength F (table_of a) (length ps) a.columns (a.columns - t)) (size_by [] (λ p. degree_of p - 1) ps)
    (quality F (field_laws a.order) (table_of a) (length ps) a.columns (λ i. elements a.order (p i)) (λ i. degree_of (p i))
    (λ i h. degree_lifted a.order (p i) (degree_of (p i)) (monic i h))
    positive
    (λ i j h g.
    apart_from_coprime a.order (p j) (p i) (degree_of (p j)) (monic j (omega arith)) (members j [] (omega arith)).0 (members i [] h).0 (coprime j i [] g h))
    (λ i j c h g k. row_lifted a.order (p i) (degree_of (p i)) j a.columns (row_of a i j) (monic i h) (positive i h) (rows i j h g) c k))
  where
    F : Ops (Digit (number_of a.order))
    F = field_of a.order

    p : ℕ → List ℕ
    p i = get_or ps i []

    monic : (i : ℕ) → i < length ps → IsMonic (p i) (degree_of (p i))
    monic i h = monic_member a.order (p i) (members i [] h)

    positive : (i : ℕ) → i < length ps → 0 < degree_of (p i)
    positive i h = positive_member a.order (p i) (members i [] h)

pub niederreiter : (o : Order) → NiederreiterHolds o
niederreiter o m ps a some_columns some_polynomials members coprime x =
    sequence_lowered a (m - quality_of ps)
    (subst (λ s. HasSequenceStrength (field_of a.order) (table_of a) s a.columns (m - quality_of ps)) (sym x.coordinates)
    (subst (λ n. HasSequenceStrength (field_of a.order) (table_of a) (length ps) a.columns (n - quality_of ps)) x.columns
    (own_strength a ps
    (subst (λ r. All (IsMember r) ps) (sym x.order) members)
    (subst (λ r. AllPairs (IsCoprime r) ps) (sym x.order) coprime)
    (subst₂ (HasRows a ps) (sym x.order) (sym x.columns) x.rows))))
