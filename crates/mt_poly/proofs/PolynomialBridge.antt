-- What contracts say of lists of numbers, as the action of polynomials over the field.
use Rattle.std.proofs.Common.{◌≡◌, ℕ, zero, suc, ◌-◌, ◌<◌, ◌≤◌, List, [], ◌∷◌, length, map, slice_index, get_or, refl, sym, ap, ap₂, ◌∙◌, arith}
use Rattle.std.proofs.Math.ListN.{get_or-map}
use Rattle.std.proofs.lemmas.List.{get_or_past}
use Rattle.mt_linear.specs.declared.order.Order.{Order}
use Rattle.mt_linear.specs.Field.{number_of, add_of, mul_of}
use Rattle.mt_linear.specs.Linear.{AllElements}
use Rattle.mt_linear.proofs.FieldLaws.{number_pos, add_lt}
use Rattle.mt_linear.proofs.Abstract.{Ops, HasFieldLaws, sum_of, sum_cong, Digit, digit, digit-of, digit-injective, digit-add, digit-mul, field_of, field_laws}
use Rattle.mt_poly.specs.Polynomials.{IsMonic, IsProduct, sum_to, product_at, Divides as NumberDivides}
use Rattle.mt_poly.proofs.Action.{poly_add, poly_scale, poly_mul, act, act_mul, act_comm, act_same, same_by_act, act-poly_add, act-poly_scale, coef_add, coef_scale, coef_mul}
use Rattle.mt_poly.proofs.Monic.{HasDegree}
use Rattle.mt_poly.proofs.Divisibility.{Divides}

-- coefficients as elements of the field
abbrev pub elements : (o : Order) → List ℕ → List (Digit (number_of o))
elements o p = map (digit o) p

-- a sequence of elements, acted upon
abbrev pub acts : (o : Order) → List ℕ → (ℕ → Digit (number_of o)) → ℕ → Digit (number_of o)
acts o p w l = act (field_of o) (elements o p) w l

-- the numbers of the first n coefficients
abbrev pub numbers : {q : ℕ} → ℕ → (ℕ → Digit q) → List ℕ
numbers zero f = []
numbers (suc n) f = (f 0).0 ∷ numbers n (λ i. f (suc i))

module _ (o : Order) where
  abbrev F : Ops (Digit (number_of o))
  F = field_of o

  abbrev L : HasFieldLaws (field_of o)
  L = field_laws o

  pub element_at : (p : List ℕ) (i : ℕ) → get_or (elements o p) i (digit o 0) ≡ digit o (slice_index p i)
  element_at p i = get_or-map (digit o) p i 0

  pub sum_to_lt : (n : ℕ) (f : ℕ → ℕ) → sum_to o n f < number_of o
  sum_to_lt zero f = number_pos o
  sum_to_lt (suc n) f = add_lt o _ _

  -- coefficients decide the action, and the other way round
  pub acts_of : (p : List ℕ) (P : List (Digit (number_of o))) → ((n : ℕ) → digit o (slice_index p n) ≡ get_or P n (digit o 0))
      → (w : ℕ → Digit (number_of o)) (l : ℕ) → acts o p w l ≡ act F P w l
  acts_of p P e = act_same F L (elements o p) P (λ n. element_at p n ∙ e n)

  digit_by : (p : List ℕ) (P : List (Digit (number_of o))) → ((w : ℕ → Digit (number_of o)) (l : ℕ) → acts o p w l ≡ act F P w l)
      → (n : ℕ) → digit o (slice_index p n) ≡ get_or P n (digit o 0)
  digit_by p P e n = sym (element_at p n) ∙ same_by_act F L (elements o p) P e n

  digit-sum_to : (n : ℕ) (f : ℕ → ℕ) → digit o (sum_to o n f) ≡ sum_of F n (λ i. digit o (f i))
  digit-sum_to zero f = refl
  digit-sum_to (suc n) f = digit-add o _ _ ∙ ap (λ x. F.add x (digit o (f n))) (digit-sum_to n f)

  pub digit-sum_mul : (n : ℕ) (f g : ℕ → ℕ)
      → digit o (sum_to o n (λ i. mul_of o (f i) (g i))) ≡ sum_of F n (λ i. F.mul (digit o (f i)) (digit o (g i)))
  digit-sum_mul n f g = digit-sum_to n (λ i. mul_of o (f i) (g i)) ∙ sum_cong F n _ _ (λ i h. digit-mul o (f i) (g i))

  pub digit-product_at : (p q : List ℕ) (n : ℕ) → digit o (product_at o p q n) ≡ get_or (poly_mul F (elements o p) (elements o q)) n (digit o 0)
  digit-product_at p q n =
      digit-sum_mul (suc n) (slice_index p) (λ i. slice_index q (n - i))
      ∙ sum_cong F (suc n) _ _ (λ i h. ap₂ F.mul (sym (element_at p i)) (sym (element_at q (n - i))))
      ∙ sym (coef_mul F L (elements o p) (elements o q) n)

  -- ---- sums and products

  pub product_to_act : (p q r : List ℕ) → IsProduct o p q r → (w : ℕ → Digit (number_of o)) (l : ℕ) → acts o r w l ≡ acts o p (acts o q w) l
  product_to_act p q r e w l =
      acts_of r (poly_mul F (elements o p) (elements o q)) (λ n. ap (digit o) (e n) ∙ digit-product_at p q n) w l
      ∙ act_mul F L (elements o p) (elements o q) w l

  -- r is p * q + a * s
  pub pair_to_act : (p q a s r : List ℕ) → ((n : ℕ) → slice_index r n ≡ add_of o (product_at o p q n) (product_at o a s n))
      → (w : ℕ → Digit (number_of o)) (l : ℕ) → acts o r w l ≡ F.add (acts o p (acts o q w) l) (acts o a (acts o s w) l)
  pair_to_act p q a s r e w l =
      acts_of r (poly_add F P S) (λ n. ap (digit o) (e n) ∙ digit-add o _ _ ∙ ap₂ F.add (digit-product_at p q n) (digit-product_at a s n) ∙ sym (coef_add F L P S n)) w l
      ∙ act-poly_add F L P S w l
      ∙ ap₂ F.add (act_mul F L (elements o p) (elements o q) w l) (act_mul F L (elements o a) (elements o s) w l)
    where
      P : List (Digit (number_of o))
      P = poly_mul F (elements o p) (elements o q)

      S : List (Digit (number_of o))
      S = poly_mul F (elements o a) (elements o s)

  pub pair_from_act : (p q a s r : List ℕ) → AllElements o r
      → ((w : ℕ → Digit (number_of o)) (l : ℕ) → acts o r w l ≡ F.add (acts o p (acts o q w) l) (acts o a (acts o s w) l))
      → (n : ℕ) → slice_index r n ≡ add_of o (product_at o p q n) (product_at o a s n)
  pair_from_act p q a s r h e n =
      digit-injective o _ _ (h n) (add_lt o _ _)
      (digit_by r (poly_add F P S) (λ w l.
      e w l
      ∙ sym (act-poly_add F L P S w l ∙ ap₂ F.add (act_mul F L (elements o p) (elements o q) w l) (act_mul F L (elements o a) (elements o s) w l))) n
      ∙ coef_add F L P S n
      ∙ sym (digit-add o _ _ ∙ ap₂ F.add (digit-product_at p q n) (digit-product_at a s n)))
    where
      P : List (Digit (number_of o))
      P = poly_mul F (elements o p) (elements o q)

      S : List (Digit (number_of o))
      S = poly_mul F (elements o a) (elements o s)

  -- r is p and c times q
  pub multiple_to_act : (p q r : List ℕ) (c : ℕ) → ((n : ℕ) → slice_index r n ≡ add_of o (slice_index p n) (mul_of o c (slice_index q n)))
      → (w : ℕ → Digit (number_of o)) (l : ℕ) → acts o r w l ≡ F.add (acts o p w l) (F.mul (digit o c) (acts o q w l))
  multiple_to_act p q r c e w l =
      acts_of r (poly_add F (elements o p) (poly_scale F (digit o c) (elements o q))) (λ n.
      ap (digit o) (e n) ∙ digit-add o _ _
      ∙ ap₂ F.add (sym (element_at p n)) (digit-mul o _ _ ∙ ap (F.mul (digit o c)) (sym (element_at q n)) ∙ sym (coef_scale F L (digit o c) (elements o q) n))
      ∙ sym (coef_add F L (elements o p) (poly_scale F (digit o c) (elements o q)) n)) w l
      ∙ act-poly_add F L (elements o p) (poly_scale F (digit o c) (elements o q)) w l
      ∙ ap (F.add (acts o p w l)) (act-poly_scale F L (digit o c) (elements o q) w l)

  -- a is b * q + r
  pub division_to_act : (a b q r : List ℕ) → ((n : ℕ) → slice_index a n ≡ add_of o (product_at o b q n) (slice_index r n))
      → (w : ℕ → Digit (number_of o)) (l : ℕ) → acts o a w l ≡ F.add (acts o q (acts o b w) l) (acts o r w l)
  division_to_act a b q r e w l =
      acts_of a (poly_add F (poly_mul F (elements o b) (elements o q)) (elements o r)) (λ n.
      ap (digit o) (e n) ∙ digit-add o _ _
      ∙ ap₂ F.add (digit-product_at b q n) (sym (element_at r n))
      ∙ sym (coef_add F L (poly_mul F (elements o b) (elements o q)) (elements o r) n)) w l
      ∙ act-poly_add F L (poly_mul F (elements o b) (elements o q)) (elements o r) w l
      ∙ ap (λ y. F.add y (acts o r w l)) (act_mul F L (elements o b) (elements o q) w l ∙ act_comm F L (elements o b) (elements o q) w l)

  pub division_from_act : (a b q r : List ℕ) → AllElements o a
      → ((w : ℕ → Digit (number_of o)) (l : ℕ) → acts o a w l ≡ F.add (acts o q (acts o b w) l) (acts o r w l))
      → (n : ℕ) → slice_index a n ≡ add_of o (product_at o b q n) (slice_index r n)
  division_from_act a b q r h e n =
      digit-injective o _ _ (h n) (add_lt o _ _)
      (digit_by a (poly_add F (poly_mul F (elements o b) (elements o q)) (elements o r)) (λ w l.
      e w l
      ∙ sym (act-poly_add F L (poly_mul F (elements o b) (elements o q)) (elements o r) w l
      ∙ ap (λ y. F.add y (acts o r w l)) (act_mul F L (elements o b) (elements o q) w l ∙ act_comm F L (elements o b) (elements o q) w l))) n
      ∙ coef_add F L (poly_mul F (elements o b) (elements o q)) (elements o r) n
      ∙ sym (digit-add o _ _ ∙ ap₂ F.add (digit-product_at b q n) (sym (element_at r n))))

  -- ---- from the field

  pub numbers_in : (n : ℕ) (f : ℕ → Digit (number_of o)) → AllElements o (numbers n f)
  numbers_in zero f k = number_pos o
  numbers_in (suc n) f zero = (f 0).1
  numbers_in (suc n) f (suc k) = numbers_in n (λ i. f (suc i)) k

  pub numbers_at : (n : ℕ) (f : ℕ → Digit (number_of o)) → ((i : ℕ) → n ≤ i → f i ≡ digit o 0) → (i : ℕ) → digit o (slice_index (numbers n f) i) ≡ f i
  numbers_at zero f z i = sym (z i (omega arith))
  numbers_at (suc n) f z zero = digit-of o (f 0)
  numbers_at (suc n) f z (suc i) = numbers_at n (λ k. f (suc k)) (λ k l. z (suc k) (omega arith)) i

  pub numbers_of : List (Digit (number_of o)) → List ℕ
  numbers_of p = numbers (length p) (λ i. get_or p i (digit o 0))

  pub numbers_of_in : (p : List (Digit (number_of o))) → AllElements o (numbers_of p)
  unfolding numbers_of
  numbers_of_in p = numbers_in (length p) (λ i. get_or p i (digit o 0))

  pub numbers_of_at : (p : List (Digit (number_of o))) (i : ℕ) → digit o (slice_index (numbers_of p) i) ≡ get_or p i (digit o 0)
  unfolding numbers_of
  numbers_of_at p = numbers_at (length p) (λ i. get_or p i (digit o 0)) (λ i l. get_or_past p i (digit o 0) l)

  -- ---- degrees and divisors

  pub degree_lifted : (p : List ℕ) (n : ℕ) → IsMonic p n → HasDegree F (elements o p) n
  degree_lifted p n h = record {
    here = element_at p n ∙ ap (digit o) h.1;
    above = λ i g. element_at p i ∙ ap (digit o) (get_or_past p i 0 (let e : length p ≡ suc n = h.0 in omega arith));
  }

  pub divides_from : (d p : List ℕ) → AllElements o p → Divides F (elements o d) (elements o p) → NumberDivides o d p
  divides_from d p h (a, e) = (
    numbers_of a,
    numbers_of_in a,
    λ n.
        digit-injective o _ _ (h n) (sum_to_lt (suc n) _)
        (digit_by p (poly_mul F (elements o (numbers_of a)) (elements o d)) (λ w l.
        e w l
        ∙ sym (act_mul F L (elements o (numbers_of a)) (elements o d) w l ∙ acts_of (numbers_of a) a (numbers_of_at a) (acts o d w) l)) n
        ∙ sym (digit-product_at (numbers_of a) d n)),
  )

  pub divides_to : (d p : List ℕ) → NumberDivides o d p → Divides F (elements o d) (elements o p)
  divides_to d p (q, h, e) = (elements o q, product_to_act q d p e)
