-- Choices of exactly k rows decide strength k: each smaller one lies within one of them.
use Rattle.std.proofs.Common.{◌≡◌, inl, inr, ℕ, zero, suc, ◌+◌, ◌*◌, ◌-◌, ◌<◌, ◌≤◌, List, [], ◌∷◌, ◌++◌, length, sum, get_or, refl, sym, ap, ◌∙◌, subst, arith, append_assoc}
use Rattle.std.proofs.lemmas.Bool.{cases_lt}
use Rattle.mt_linear.specs.declared.order.Order.{Order}
use Rattle.mt_linear.specs.Field.{add_of, mul_of}
use Rattle.mt_linear.specs.Linear.{Coefficients, combination, Independent}
use Rattle.mt_linear.proofs.FieldLaws.{number_pos}
use Rattle.mt_linear.proofs.Combination.{zero_mul, zero_add, combination_lt}
use Rattle.mt_system.specs.Choices.{AllAtMost, IsChoice}
use Rattle.mt_system.specs.Rows.{Matrices, rows_by, row_of, first_rows}
use Rattle.mt_system.proofs.ChoiceOrder.{sum-cons}
use Rattle.mt_strength.specs.Laws.{StrengthIsExact}

-- the coefficients a with a zero between the first n and the others
abbrev with_zero : ℕ → (ℕ → ℕ) → ℕ → ℕ
with_zero zero a zero = 0
with_zero zero a (suc k) = a k
with_zero (suc n) a zero = a 0
with_zero (suc n) a (suc k) = with_zero n (λ i. a (suc i)) k

Coefficients-with_zero : (o : Order) (n : ℕ) (a : ℕ → ℕ) → Coefficients o a → Coefficients o (with_zero n a)
Coefficients-with_zero o zero a small zero = number_pos o
Coefficients-with_zero o zero a small (suc k) = small k
Coefficients-with_zero o (suc n) a small zero = small 0
Coefficients-with_zero o (suc n) a small (suc k) = Coefficients-with_zero o n (λ i. a (suc i)) (λ i. small (suc i)) k

combination-with_zero : (o : Order) (a : ℕ → ℕ) (xs ys : List (List ℕ)) (v : List ℕ) (i : ℕ)
    → combination o (with_zero (length xs) a) (xs ++ v ∷ ys) i ≡ combination o a (xs ++ ys) i
combination-with_zero o a [] ys v i =
    ap (λ n. add_of o n (combination o a ys i)) (zero_mul o (get_or v i 0)) ∙ zero_add o _ (combination_lt o a ys i)
combination-with_zero o a (x ∷ xs) ys v i =
    ap (add_of o (mul_of o (a 0) (get_or x i 0))) (combination-with_zero o (λ k. a (suc k)) xs ys v i)

-- where all of them are zero, so are the coefficients
without_zero : (n m : ℕ) (a : ℕ → ℕ) → ((k : ℕ) → k < suc m → with_zero n a k ≡ 0) → (k : ℕ) → k < m → a k ≡ 0
without_zero zero m a h k l = h (suc k) (omega (arith, l))
without_zero (suc n) m a h zero l = h 0 (omega arith)
without_zero (suc n) zero a h (suc k) l = absurd (omega (arith, l))
without_zero (suc n) (suc m) a h (suc k) l = without_zero n m (λ i. a (suc i)) (λ j g. h (suc j) (omega (arith, g))) k (omega (arith, l))

length_more : (xs ys : List (List ℕ)) (v : List ℕ) → length (xs ++ v ∷ ys) ≡ suc (length (xs ++ ys))
length_more [] ys v = refl
length_more (x ∷ xs) ys v = ap suc (length_more xs ys v)

-- independent vectors but for one
Independent-without : (o : Order) (xs ys : List (List ℕ)) (v : List ℕ) → Independent o (xs ++ v ∷ ys) → Independent o (xs ++ ys)
Independent-without o xs ys v independent a small zeros =
    without_zero (length xs) (length (xs ++ ys)) a
    (λ k l. independent (with_zero (length xs) a) (Coefficients-with_zero o (length xs) a small) (λ i. combination-with_zero o a xs ys v i ∙ zeros i) k (omega (arith, l, length_more xs ys v)))

-- a choice that is not whole lies within one of a row more
raised_by_one : (o : Order) (M : ℕ → ℕ → List ℕ) (before : List (List ℕ)) (depth : ℕ) (c : List ℕ) → AllAtMost depth c → sum c < length c * depth
    → (d : List ℕ) × (length d ≡ length c) × AllAtMost depth d × (sum d ≡ suc (sum c)) × (Independent o (before ++ rows_by M d) → Independent o (before ++ rows_by M c))
raised_by_one o M before depth [] most l = absurd (omega (arith, l))
raised_by_one o M before depth (x ∷ xs) most l =
    let first = first_rows (M 0) x in
    let rows = rows_by (λ i. M (suc i)) xs in
    elim (cases_lt x depth) [
      | inl g ↦ (
        suc x ∷ xs,
        refl,
        (g, most.1),
        omega (arith, sum-cons (suc x) xs, sum-cons x xs),
        λ h.
            subst (Independent o) (append_assoc before first rows)
            (Independent-without o (before ++ first) rows (M 0 x)
            (subst (Independent o) (ap (λ (vs : List (List ℕ)). before ++ vs) (append_assoc first (M 0 x ∷ []) rows) ∙ sym (append_assoc before first (M 0 x ∷ rows))) h)),
      )
      | inr g ↦
          let rest = raised_by_one o (λ i. M (suc i)) (before ++ first) depth xs most.1 (omega (arith, l, g, most.0, sum-cons x xs)) in (
            x ∷ rest.0,
            ap suc rest.1,
            (most.0, rest.2),
            omega (arith, rest.3, sum-cons x rest.0, sum-cons x xs),
            λ h.
                subst (Independent o) (append_assoc before first rows)
                (rest.4 (subst (Independent o) (sym (append_assoc before first (rows_by (λ i. M (suc i)) rest.0))) h)),
          )
    ]

-- a choice is independent where all choices of n rows more are
by_larger : (o : Order) (M : ℕ → ℕ → List ℕ) (s depth n : ℕ) (c : List ℕ) → IsChoice s depth c → sum c + n ≤ s * depth
    → ((d : List ℕ) → IsChoice s depth d → sum d ≡ sum c + n → Independent o (rows_by M d)) → Independent o (rows_by M c)
by_larger o M s depth zero c choice l h = h c choice (omega arith)
by_larger o M s depth (suc n) c choice l h =
    let more = raised_by_one o M [] depth c choice.at_most (subst (λ k. sum c < k * depth) (sym choice.coordinates) (omega (arith, l))) in
    more.4 (by_larger o M s depth n more.0 (record { coordinates = more.1 ∙ choice.coordinates; at_most = more.2 }) (omega (arith, l, more.3)) (λ d is e. h d is (omega (arith, e, more.3))))

pub strength_exact : (a : Matrices) (k : ℕ) → StrengthIsExact a k
strength_exact a k enough = (
  λ strength c choice size. strength c choice (omega (arith, size)),
  λ exact c choice size. by_larger a.order (row_of a) a.coordinates a.depth (k - sum c) c choice (omega (arith, size, enough)) (λ d is e. exact d is (omega (arith, e, size))),
)
