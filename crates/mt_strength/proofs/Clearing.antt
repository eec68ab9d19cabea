-- A row with a place where it is not 0 is independent of rows where what is left of those, cleared at that place, is independent.
use Rattle.std.proofs.Common.{◌≡◌, ◌≢◌, ℕ, zero, suc, ◌<◌, List, [], ◌∷◌, ◌++◌, length, get_or, refl, sym, ap, ap₂, ◌∙◌, arith}
use Rattle.mt_linear.specs.declared.order.Order.{Order}
use Rattle.mt_linear.specs.Field.{number_of, add_of, mul_of, neg_of, inv_of}
use Rattle.mt_linear.specs.Linear.{AllElements, combination, Independent}
use Rattle.mt_linear.proofs.FieldLaws.{number_pos, one_below, mul_assoc, distrib, add_comm, mul_comm, add_lt, mul_lt, mul_zero, add_zero, mul_one, mul_inv}
use Rattle.mt_linear.proofs.Combination.{zero_mul, zero_add_zero, distrib_right, add_swap, combination_lt, combination-zero}
use Rattle.mt_linear.proofs.Reduction.{zero_factor, neg_cancel, add_cancel}
use Rattle.mt_system.specs.Rows.{first_rows, rows_by}

-- two lists of one length, whose elements are related pairwise
abbrev pub Zip : (List ℕ → List ℕ → Type 0) → List (List ℕ) → List (List ℕ) → Type 0
Zip R [] [] = Unit {0}
Zip R [] (y ∷ ys) = ⊥
Zip R (x ∷ xs) [] = ⊥
Zip R (x ∷ xs) (y ∷ ys) = R x y × Zip R xs ys

pub Zip-append : (R : List ℕ → List ℕ → Type 0) (xs ys us vs : List (List ℕ)) → Zip R xs ys → Zip R us vs → Zip R (xs ++ us) (ys ++ vs)
Zip-append R [] [] us vs h g = g
Zip-append R [] (y ∷ ys) us vs h g = absurd h
Zip-append R (x ∷ xs) [] us vs h g = absurd h
Zip-append R (x ∷ xs) (y ∷ ys) us vs h g = (h.0, Zip-append R xs ys us vs h.1 g)

Zip-first_rows : (R : List ℕ → List ℕ → Type 0) (F G : ℕ → List ℕ) (n : ℕ) → ((j : ℕ) → j < n → R (F j) (G j)) → Zip R (first_rows F n) (first_rows G n)
Zip-first_rows R F G zero h = tt
Zip-first_rows R F G (suc n) h = Zip-append R (first_rows F n) (first_rows G n) (F n ∷ []) (G n ∷ []) (Zip-first_rows R F G n (λ j l. h j (omega arith))) (h n (omega arith), tt)

pub Zip-rows_by : (R : List ℕ → List ℕ → Type 0) (M N : ℕ → ℕ → List ℕ) (c : List ℕ) → ((i j : ℕ) → j < get_or c i 0 → R (M i j) (N i j)) → Zip R (rows_by M c) (rows_by N c)
Zip-rows_by R M N [] h = tt
Zip-rows_by R M N (d ∷ ds) h =
    Zip-append R (first_rows (M 0) d) (first_rows (N 0) d) (rows_by (λ i. M (suc i)) ds) (rows_by (λ i. N (suc i)) ds)
    (Zip-first_rows R (M 0) (N 0) d (h 0))
    (Zip-rows_by R (λ i. M (suc i)) (λ i. N (suc i)) ds (λ i j l. h (suc i) j l))

pub Zip-length : (R : List ℕ → List ℕ → Type 0) (xs ys : List (List ℕ)) → Zip R xs ys → length xs ≡ length ys
Zip-length R [] [] h = refl
Zip-length R [] (y ∷ ys) h = absurd h
Zip-length R (x ∷ xs) [] h = absurd h
Zip-length R (x ∷ xs) (y ∷ ys) h = ap suc (Zip-length R xs ys h.1)

-- the same digits
abbrev pub SameDigits : List ℕ → List ℕ → Type 0
SameDigits v w = (k : ℕ) → get_or v k 0 ≡ get_or w k 0

combination-digits : (o : Order) (xs ys : List (List ℕ)) → Zip SameDigits xs ys → (a : ℕ → ℕ) (i : ℕ) → combination o a xs i ≡ combination o a ys i
combination-digits o [] [] h a i = refl
combination-digits o [] (y ∷ ys) h a i = absurd h
combination-digits o (x ∷ xs) [] h a i = absurd h
combination-digits o (x ∷ xs) (y ∷ ys) h a i = ap₂ (λ n s. add_of o (mul_of o (a 0) n) s) (h.0 i) (combination-digits o xs ys h.1 (λ k. a (suc k)) i)

pub Independent-digits : (o : Order) (xs ys : List (List ℕ)) → Zip SameDigits xs ys → Independent o ys → Independent o xs
Independent-digits o xs ys h independent a al zeros k l =
    let e = Zip-length SameDigits xs ys h in
    independent a al (λ i. sym (combination-digits o xs ys h a i) ∙ zeros i) k (omega arith)

-- w is r and a multiple of p, by the digit of r at place and f
abbrev pub Clears : Order → List ℕ → ℕ → ℕ → List ℕ → List ℕ → Type 0
Clears o p place f r w = (k : ℕ) → get_or w k 0 ≡ add_of o (get_or r k 0) (mul_of o (mul_of o (get_or r place 0) f) (get_or p k 0))

-- x before all coefficients
abbrev pub before : ℕ → (ℕ → ℕ) → ℕ → ℕ
before x a zero = x
before x a (suc k) = a k

pub before_lt : (o : Order) (x : ℕ) (a : ℕ → ℕ) → x < number_of o → ((k : ℕ) → a k < number_of o) → (k : ℕ) → before x a k < number_of o
before_lt o x a l h zero = l
before_lt o x a l h (suc k) = h k

module _ (o : Order) (p : List ℕ) (place f : ℕ) where
  -- a combination of what is left is the same of the rows, and a multiple of p
  record Total (rs ws : List (List ℕ)) (a : ℕ → ℕ) : Type 0 where
    factor : ℕ
    element : factor < number_of o
    sum : (i : ℕ) → combination o a ws i ≡ add_of o (combination o a rs i) (mul_of o factor (get_or p i 0))

  total : (rs ws : List (List ℕ)) → Zip (Clears o p place f) rs ws → (a : ℕ → ℕ) → Total rs ws a
  total [] [] h a = record { factor = 0; element = number_pos o; sum = λ i. sym (ap (add_of o 0) (zero_mul o _) ∙ zero_add_zero o) }
  total [] (w ∷ ws) h a = absurd h
  total (r ∷ rs) [] h a = absurd h
  total (r ∷ rs) (w ∷ ws) h a =
      let rest = total rs ws h.1 (λ k. a (suc k)) in
      let g = mul_of o (get_or r place 0) f in
      record {
        factor = add_of o (mul_of o (a 0) g) rest.factor;
        element = add_lt o _ _;
        sum = λ i.
            let q = get_or p i 0 in
            ap₂ (add_of o) (ap (mul_of o (a 0)) (h.0 i) ∙ distrib o (a 0) (get_or r i 0) (mul_of o g q)) (rest.sum i)
            ∙ add_swap o _ _ _ _
            ∙ ap (add_of o (combination o a (r ∷ rs) i)) (ap (λ s. add_of o s (mul_of o rest.factor q)) (sym (mul_assoc o (a 0) g q)) ∙ sym (distrib_right o (mul_of o (a 0) g) rest.factor q));
      }

  -- what is left of rows that are independent with p is independent
  pub Independent-left : (rs ws : List (List ℕ)) → Zip (Clears o p place f) rs ws → Independent o (p ∷ rs) → Independent o ws
  Independent-left rs ws h independent a al zeros k l =
      let t = total rs ws h a in
      let same = Zip-length (Clears o p place f) rs ws h in
      independent (before t.factor a) (before_lt o t.factor a t.element al) (λ i. add_comm o _ _ ∙ sym (t.sum i) ∙ zeros i) (suc k) (omega arith)

  module _ (p_place : get_or p place 0 < number_of o) (some : get_or p place 0 ≢ 0) (factor : f ≡ neg_of o (inv_of o (get_or p place 0))) where
    cancels : (d : ℕ) → d < number_of o → add_of o d (mul_of o (mul_of o d f) (get_or p place 0)) ≡ 0
    cancels d l =
        let q = get_or p place 0 in
        ap₂ (add_of o) (sym (mul_one o d l) ∙ ap (mul_of o d) (sym (mul_inv o q p_place some) ∙ mul_comm o q (inv_of o q)))
        (mul_assoc o d f q ∙ ap (λ x. mul_of o d (mul_of o x q)) factor)
        ∙ sym (distrib o d _ _)
        ∙ ap (mul_of o d) (add_comm o _ _ ∙ neg_cancel o (inv_of o q) q)
        ∙ mul_zero o d

    zero_at_place : (rs ws : List (List ℕ)) → Zip (Clears o p place f) rs ws → Zip (λ r w. AllElements o r) rs ws → (a : ℕ → ℕ) → combination o a ws place ≡ 0
    zero_at_place [] [] h e a = refl
    zero_at_place [] (w ∷ ws) h e a = absurd h
    zero_at_place (r ∷ rs) [] h e a = absurd h
    zero_at_place (r ∷ rs) (w ∷ ws) h e a =
        ap₂ (add_of o) (ap (mul_of o (a 0)) (h.0 place ∙ cancels (get_or r place 0) (e.0 place)) ∙ mul_zero o (a 0)) (zero_at_place rs ws h.1 e.1 (λ k. a (suc k)))
        ∙ zero_add_zero o

    pub Independent-cleared : (rs ws : List (List ℕ)) → Zip (Clears o p place f) rs ws → Zip (λ r w. AllElements o r) rs ws → Independent o ws → Independent o (p ∷ rs)
    Independent-cleared rs ws h e independent a al zeros =
        let b : ℕ → ℕ = λ k. a (suc k) in
        let t = total rs ws h b in
        let n = neg_of o (a 0) in
        let u = add_of o n t.factor in
        let others : (i : ℕ) → combination o b rs i ≡ mul_of o n (get_or p i 0) = λ i.
        add_cancel o (mul_of o (a 0) (get_or p i 0)) _ _ (combination_lt o b rs i) (mul_lt o _ _)
        (zeros i ∙ sym (add_comm o _ _ ∙ neg_cancel o (a 0) (get_or p i 0))) in
        let left : (i : ℕ) → combination o b ws i ≡ mul_of o u (get_or p i 0) = λ i.
        t.sum i ∙ ap (λ s. add_of o s (mul_of o t.factor (get_or p i 0))) (others i) ∙ sym (distrib_right o n t.factor (get_or p i 0)) in
        let u0 : u ≡ 0 = zero_factor o u (get_or p place 0) (add_lt o _ _) p_place some (sym (left place) ∙ zero_at_place rs ws h e b) in
        let none : (k : ℕ) → k < length ws → b k ≡ 0 = independent b (λ k. al (suc k)) (λ i. left i ∙ ap (λ s. mul_of o s (get_or p i 0)) u0 ∙ zero_mul o _) in
        let same = Zip-length (Clears o p place f) rs ws h in
        let none_of : (k : ℕ) → k < length rs → b k ≡ 0 = λ k l. none k (omega arith) in
        let alone : mul_of o (a 0) (get_or p place 0) ≡ 0 =
        sym (add_zero o _ (mul_lt o _ _)) ∙ ap (add_of o (mul_of o (a 0) (get_or p place 0))) (sym (combination-zero o b rs place none_of)) ∙ zeros place in
        let first : a 0 ≡ 0 = zero_factor o (a 0) (get_or p place 0) (al 0) p_place some alone in
        λ k l. at k l first none_of
      where
        at : (k : ℕ) → k < length (p ∷ rs) → a 0 ≡ 0 → ((k : ℕ) → k < length rs → a (suc k) ≡ 0) → a k ≡ 0
        at zero l first none = first
        at (suc k) l first none = none k (omega arith)

-- elements, one of which is not zero
pub record IsNonzero (o : Order) (v : List ℕ) : Type 0 where
  pub elements : AllElements o v
  pub place : ℕ
  pub some : get_or v place 0 ≢ 0

pub Independent-single : (o : Order) (v : List ℕ) → IsNonzero o v → Independent o (v ∷ [])
Independent-single o v h a al zeros k l =
    let q = get_or v h.place 0 in
    let alone : mul_of o (a 0) q ≡ 0 = sym (add_zero o _ (mul_lt o _ _)) ∙ zeros h.place in
    let e : k ≡ 0 = omega arith in
    rw e (zero_factor o (a 0) q (al 0) (h.elements h.place) h.some alone)

-- a row of zeros is not independent
pub zero_dependent : (o : Order) (v : List ℕ) → ((k : ℕ) → get_or v k 0 ≡ 0) → Independent o (v ∷ []) → ⊥
zero_dependent o v zeros independent =
    let one : ◌≡◌ {A = ℕ} 1 0 = independent (λ k. 1) (λ k. one_below o) (λ i. ap (λ d. add_of o (mul_of o 1 d) 0) (zeros i) ∙ ap (λ d. add_of o d 0) (mul_zero o 1) ∙ zero_add_zero o) 0 (omega arith) in
    absurd (omega arith)
