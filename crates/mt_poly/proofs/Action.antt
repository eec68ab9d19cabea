-- Polynomials over any field act on sequences: x shifts a sequence by one term. A polynomial is the list of its coefficients, the constant first.
use Rattle.std.proofs.Common.{◌≡◌, ◌≢◌, ℕ, zero, suc, ◌+◌, ◌-◌, ◌<◌, ◌≤◌, List, [], ◌∷◌, get_or, cond, eqb, refl, sym, ap, ap₂, ◌∙◌, arith, add-suc}
use Rattle.std.proofs.lemmas.Bool.{cond-true, cond-false, eq-eqb, ne_eqb}
use Rattle.mt_linear.proofs.Abstract.{Ops, HasFieldLaws, sum_of, sum_null, sum_first, sum_cong, null_add, mul_null}
use Rattle.mt_linear.proofs.Sums.{null_mul, add_swap}

abbrev pub poly_add : {K : Type 0} → Ops K → List K → List K → List K
poly_add F [] q = q
poly_add F (x ∷ p) [] = x ∷ p
poly_add F (x ∷ p) (y ∷ q) = F.add x y ∷ poly_add F p q

abbrev pub poly_scale : {K : Type 0} → Ops K → K → List K → List K
poly_scale F x [] = []
poly_scale F x (y ∷ q) = F.mul x y ∷ poly_scale F x q

abbrev pub poly_mul : {K : Type 0} → Ops K → List K → List K → List K
poly_mul F [] q = []
poly_mul F (x ∷ p) q = poly_add F (poly_scale F x q) (F.null ∷ poly_mul F p q)

abbrev pub poly_power : {K : Type 0} → Ops K → List K → ℕ → List K
poly_power F p zero = F.one ∷ []
poly_power F p (suc n) = poly_mul F (poly_power F p n) p

-- term l of p times w: p 0 * w l + p 1 * w (l + 1) + ..
abbrev pub act : {K : Type 0} → Ops K → List K → (ℕ → K) → ℕ → K
act F [] w l = F.null
act F (x ∷ p) w l = F.add (F.mul x (w l)) (act F p w (suc l))

-- p times w is zero
abbrev pub Kills : {K : Type 0} → Ops K → List K → (ℕ → K) → Type 0
Kills F p w = (l : ℕ) → act F p w l ≡ F.null

-- 1 at place n, and else 0
abbrev pub mark : {K : Type 0} → Ops K → ℕ → ℕ → K
mark F n l = cond (eqb l n) F.one F.null

pub mark_here : {K : Type 0} (F : Ops K) (n l : ℕ) → l ≡ n → mark F n l ≡ F.one
mark_here F n l e = cond-true _ _ _ (eq-eqb l n e)

pub mark_else : {K : Type 0} (F : Ops K) (n l : ℕ) → l ≢ n → mark F n l ≡ F.null
mark_else F n l e = cond-false _ _ _ (ne_eqb l n e)

module _ {K : Type 0} (F : Ops K) (L : HasFieldLaws F) where
  add-mul : (x y z : K) → F.mul (F.add x y) z ≡ F.add (F.mul x z) (F.mul y z)
  add-mul x y z = L.mul_comm (F.add x y) z ∙ L.mul_add z x y ∙ ap₂ F.add (L.mul_comm z x) (L.mul_comm z y)

  pub one_mul : (x : K) → F.mul F.one x ≡ x
  one_mul x = L.mul_comm F.one x ∙ L.mul_one x

  mul_left_comm : (x y z : K) → F.mul x (F.mul y z) ≡ F.mul y (F.mul x z)
  mul_left_comm x y z = sym (L.mul_assoc x y z) ∙ ap (λ w. F.mul w z) (L.mul_comm x y) ∙ L.mul_assoc y x z

  -- where each term is zero
  pub act_zero : (p : List K) (w : ℕ → K) (l : ℕ) → ((j : ℕ) → F.mul (get_or p j F.null) (w (l + j)) ≡ F.null) → act F p w l ≡ F.null
  act_zero [] w l h = refl
  act_zero (x ∷ p) w l h =
      ap₂ F.add
      (ap (λ i. F.mul x (w i)) (omega arith) ∙ h 0)
      (act_zero p w (suc l) (λ j. ap (λ i. F.mul (get_or p j F.null) (w i)) (omega arith) ∙ h (suc j)))
      ∙ L.add_null F.null

  -- as a sum of n terms, where the others are zero
  pub act-terms : (p : List K) (n : ℕ) (w : ℕ → K) (l : ℕ) → ((j : ℕ) → n ≤ j → F.mul (get_or p j F.null) (w (l + j)) ≡ F.null)
      → act F p w l ≡ sum_of F n (λ j. F.mul (get_or p j F.null) (w (l + j)))
  act-terms [] n w l h = sym (sum_null F L n _ (λ j g. null_mul F L (w (l + j))))
  act-terms (x ∷ p) zero w l h = act_zero (x ∷ p) w l (λ j. h j (omega arith))
  act-terms (x ∷ p) (suc n) w l h =
      ap₂ F.add
      (ap (λ i. F.mul x (w i)) (omega arith))
      (act-terms p n w (suc l) (λ j g. ap (λ i. F.mul (get_or p j F.null) (w i)) (omega arith) ∙ h (suc j) (omega arith))
      ∙ sum_cong F n _ _ (λ j g. ap (λ i. F.mul (get_or p j F.null) (w i)) (omega arith)))
      ∙ sym (sum_first F L n (λ j. F.mul (get_or (x ∷ p) j F.null) (w (l + j))))

  -- ---- linear in the sequence

  pub act_cong : (p : List K) (w v : ℕ → K) → ((l : ℕ) → w l ≡ v l) → (l : ℕ) → act F p w l ≡ act F p v l
  act_cong [] w v e l = refl
  act_cong (x ∷ p) w v e l = ap₂ F.add (ap (F.mul x) (e l)) (act_cong p w v e (suc l))

  pub act_null : (p : List K) (w : ℕ → K) → ((l : ℕ) → w l ≡ F.null) → Kills F p w
  act_null p w e l = act_zero p w l (λ j. ap (F.mul (get_or p j F.null)) (e (l + j)) ∙ mul_null F L (get_or p j F.null))

  pub act_add : (p : List K) (w v : ℕ → K) (l : ℕ) → act F p (λ i. F.add (w i) (v i)) l ≡ F.add (act F p w l) (act F p v l)
  act_add [] w v l = sym (L.add_null F.null)
  act_add (x ∷ p) w v l = ap₂ F.add (L.mul_add x (w l) (v l)) (act_add p w v (suc l)) ∙ add_swap F L _ _ _ _

  act_scale : (p : List K) (a : K) (w : ℕ → K) (l : ℕ) → act F p (λ i. F.mul a (w i)) l ≡ F.mul a (act F p w l)
  act_scale [] a w l = sym (mul_null F L a)
  act_scale (x ∷ p) a w l = ap₂ F.add (mul_left_comm x a (w l)) (act_scale p a w (suc l)) ∙ sym (L.mul_add a _ _)

  pub act_sum : (p : List K) (n : ℕ) (w : ℕ → ℕ → K) (l : ℕ) → act F p (λ i. sum_of F n (λ j. w j i)) l ≡ sum_of F n (λ j. act F p (w j) l)
  act_sum p zero w l = act_null p _ (λ i. refl) l
  act_sum p (suc n) w l =
      act_add p (λ i. sum_of F n (λ j. w j i)) (w n) l
      ∙ ap (λ x. F.add x (act F p (w n) l)) (act_sum p n w l)

  -- the sum of multiples of sequences
  pub act_combination : (p : List K) (n : ℕ) (a : ℕ → K) (w : ℕ → ℕ → K) (l : ℕ)
      → act F p (λ i. sum_of F n (λ j. F.mul (a j) (w j i))) l ≡ sum_of F n (λ j. F.mul (a j) (act F p (w j) l))
  act_combination p n a w l = act_sum p n (λ j i. F.mul (a j) (w j i)) l ∙ sum_cong F n _ _ (λ j g. act_scale p (a j) (w j) l)

  pub act_shift : (p : List K) (w : ℕ → K) (l : ℕ) → act F p (λ i. w (suc i)) l ≡ act F p w (suc l)
  act_shift [] w l = refl
  act_shift (x ∷ p) w l = ap (F.add (F.mul x (w (suc l)))) (act_shift p w (suc l))

  pub act_shifts : (p : List K) (k : ℕ) (w : ℕ → K) (l : ℕ) → act F p (λ i. w (k + i)) l ≡ act F p w (k + l)
  act_shifts [] k w l = refl
  act_shifts (x ∷ p) k w l = ap (F.add (F.mul x (w (k + l)))) (act_shifts p k w (suc l) ∙ ap (act F p w) (add-suc k l))

  -- ---- sums and products of polynomials

  pub act-poly_add : (p q : List K) (w : ℕ → K) (l : ℕ) → act F (poly_add F p q) w l ≡ F.add (act F p w l) (act F q w l)
  act-poly_add [] q w l = sym (null_add F L _)
  act-poly_add (x ∷ p) [] w l = sym (L.add_null _)
  act-poly_add (x ∷ p) (y ∷ q) w l = ap₂ F.add (add-mul x y (w l)) (act-poly_add p q w (suc l)) ∙ add_swap F L _ _ _ _

  pub act-poly_scale : (a : K) (q : List K) (w : ℕ → K) (l : ℕ) → act F (poly_scale F a q) w l ≡ F.mul a (act F q w l)
  act-poly_scale a [] w l = sym (mul_null F L a)
  act-poly_scale a (y ∷ q) w l = ap₂ F.add (L.mul_assoc a y (w l)) (act-poly_scale a q w (suc l)) ∙ sym (L.mul_add a _ _)

  -- a polynomial with the constant 0
  pub act_null-cons : (p : List K) (w : ℕ → K) (l : ℕ) → act F (F.null ∷ p) w l ≡ act F p w (suc l)
  act_null-cons p w l = ap (λ y. F.add y (act F p w (suc l))) (null_mul F L (w l)) ∙ null_add F L _

  pub act_one : (w : ℕ → K) (l : ℕ) → act F (F.one ∷ []) w l ≡ w l
  act_one w l = L.add_null _ ∙ one_mul (w l)

  pub act_mul : (p q : List K) (w : ℕ → K) (l : ℕ) → act F (poly_mul F p q) w l ≡ act F p (act F q w) l
  act_mul [] q w l = refl
  act_mul (x ∷ p) q w l =
      act-poly_add (poly_scale F x q) (F.null ∷ poly_mul F p q) w l
      ∙ ap₂ F.add (act-poly_scale x q w l) (act_null-cons (poly_mul F p q) w l ∙ act_mul p q w (suc l))

  pub act_comm : (p q : List K) (w : ℕ → K) (l : ℕ) → act F p (act F q w) l ≡ act F q (act F p w) l
  act_comm [] q w l = sym (act_null q _ (λ i. refl) l)
  act_comm (x ∷ p) q w l =
      sym (act_add q (λ i. F.mul x (w i)) (λ i. act F p w (suc i)) l
      ∙ ap₂ F.add (act_scale q x w l) (act_shift q (act F p w) l ∙ sym (act_comm p q w (suc l))))

  -- ---- a polynomial is known by its action, so that laws of polynomials are laws of the action

  pub act_same : (p q : List K) → ((i : ℕ) → get_or p i F.null ≡ get_or q i F.null) → (w : ℕ → K) (l : ℕ) → act F p w l ≡ act F q w l
  act_same [] q e w l = sym (act_zero q w l (λ j. ap (λ y. F.mul y (w (l + j))) (sym (e j)) ∙ null_mul F L (w (l + j))))
  act_same (x ∷ p) [] e w l = act_zero (x ∷ p) w l (λ j. ap (λ y. F.mul y (w (l + j))) (e j) ∙ null_mul F L (w (l + j)))
  act_same (x ∷ p) (y ∷ q) e w l = ap₂ F.add (ap (λ z. F.mul z (w l)) (e 0)) (act_same p q (λ i. e (suc i)) w (suc l))

  act_past : (p : List K) (n l : ℕ) → n < l → act F p (mark F n) l ≡ F.null
  act_past p n l h = act_zero p (mark F n) l (λ j. ap (F.mul (get_or p j F.null)) (mark_else F n (l + j) (λ e. omega arith)) ∙ mul_null F L (get_or p j F.null))

  act_mark : (p : List K) (i l : ℕ) → act F p (mark F (l + i)) l ≡ get_or p i F.null
  act_mark [] i l = refl
  act_mark (x ∷ p) zero l =
      ap₂ F.add (ap (F.mul x) (mark_here F (l + 0) l (omega arith)) ∙ L.mul_one x) (act_past p (l + 0) (suc l) (omega arith))
      ∙ L.add_null x
  act_mark (x ∷ p) (suc i) l =
      ap₂ F.add
      (ap (F.mul x) (mark_else F (l + suc i) l (λ e. omega arith)) ∙ mul_null F L x)
      (ap (λ n. act F p (mark F n) (suc l)) {x = l + suc i} {y = suc l + i} (omega arith) ∙ act_mark p i (suc l))
      ∙ null_add F L _

  pub same_by_act : (p q : List K) → ((w : ℕ → K) (l : ℕ) → act F p w l ≡ act F q w l) → (i : ℕ) → get_or p i F.null ≡ get_or q i F.null
  same_by_act p q h i = sym (act_mark p i 0) ∙ h (mark F (0 + i)) 0 ∙ act_mark q i 0

  -- ---- coefficients

  pub coef_add : (p q : List K) (i : ℕ) → get_or (poly_add F p q) i F.null ≡ F.add (get_or p i F.null) (get_or q i F.null)
  coef_add [] q i = sym (null_add F L _)
  coef_add (x ∷ p) [] i = sym (L.add_null _)
  coef_add (x ∷ p) (y ∷ q) zero = refl
  coef_add (x ∷ p) (y ∷ q) (suc i) = coef_add p q i

  pub coef_scale : (a : K) (q : List K) (i : ℕ) → get_or (poly_scale F a q) i F.null ≡ F.mul a (get_or q i F.null)
  coef_scale a [] i = sym (mul_null F L a)
  coef_scale a (y ∷ q) zero = refl
  coef_scale a (y ∷ q) (suc i) = coef_scale a q i

  pub coef_mul : (p q : List K) (n : ℕ)
      → get_or (poly_mul F p q) n F.null ≡ sum_of F (suc n) (λ i. F.mul (get_or p i F.null) (get_or q (n - i) F.null))
  coef_mul p q n =
      sym (act_mark (poly_mul F p q) n 0)
      ∙ act_mul p q (mark F (0 + n)) 0
      ∙ act-terms p (suc n) (act F q (mark F (0 + n))) 0 (λ j g.
      ap (F.mul (get_or p j F.null)) (act_past q (0 + n) (0 + j) (omega arith)) ∙ mul_null F L (get_or p j F.null))
      ∙ sum_cong F (suc n) _ _ (λ i g.
      ap (F.mul (get_or p i F.null))
      (ap₂ (λ k l. act F q (mark F k) l) {x = 0 + n} {y = i + (n - i)} {u = 0 + i} {v = i} (omega arith) (omega arith) ∙ act_mark q (n - i) i))
