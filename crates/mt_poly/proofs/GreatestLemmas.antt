-- The steps of division and of Euclid's algorithm, for lists of numbers.
use Rattle.std.proofs.Common.{◌≡◌, ◌≢◌, inl, inr, ℕ, zero, suc, ◌+◌, ◌-◌, ◌<◌, List, [], ◌∷◌, length, drop, set, slice_index, get_or, refl, sym, ap, ap₂, ◌∙◌, subst, arith}
use Rattle.std.proofs.lemmas.Bool.{cases_lt, cases_eq}
use Rattle.std.proofs.lemmas.List.{get_or_past, get_or-drop, drop_more, drop-set}
use Rattle.mt_linear.specs.declared.order.Order.{Order}
use Rattle.mt_linear.specs.Field.{number_of, add_of, mul_of, neg_of, inv_of}
use Rattle.mt_linear.specs.Linear.{AllElements}
use Rattle.mt_linear.proofs.FieldLaws.{number_pos, add_lt, mul_lt, mul_inv, mul_comm, mul_zero, mul_assoc, mul_one}
use Rattle.mt_linear.proofs.Combination.{zero_add, zero_add_zero}
use Rattle.mt_linear.proofs.Abstract.{Ops, HasFieldLaws, Digit, digit, digit-injective, digit-add, digit-mul, digit-neg, field_of, field_laws, null_add}
use Rattle.mt_linear.proofs.Sums.{neg-mul}
use Rattle.mt_poly.specs.Polynomials.{IsPolynomial, IsProduct, IsDivision, IsGreatest, product_at}
use Rattle.mt_poly.proofs.Action.{poly_mul, one_mul, act_mul}
use Rattle.mt_poly.proofs.Divisibility.{divides_product, divides_sum, divide_step, gcd_step}
use Rattle.mt_poly.proofs.ListLemmas.{length_top, multiple_past, sum_to_zero}
use Rattle.mt_poly.proofs.PolynomialBridge.{elements, acts, element_at, acts_of, product_to_act, pair_to_act, pair_from_act, multiple_to_act, division_to_act, division_from_act, divides_from, divides_to}

module _ (o : Order) where
  abbrev F : Ops (Digit (number_of o))
  F = field_of o

  abbrev L : HasFieldLaws (field_of o)
  L = field_laws o

  -- ---- division

  -- one coefficient more, x: c times b is taken from what is left
  division_more : (b n q r s : List ℕ) (x c : ℕ) → AllElements o (x ∷ n)
      → ((k : ℕ) → slice_index n k ≡ add_of o (product_at o b q k) (slice_index r k))
      → ((k : ℕ) → slice_index s k ≡ add_of o (slice_index (x ∷ r) k) (mul_of o (neg_of o c) (slice_index b k)))
      → (k : ℕ) → slice_index (x ∷ n) k ≡ add_of o (product_at o b (c ∷ q) k) (slice_index s k)
  division_more b n q r s x c h e f =
      division_from_act o (x ∷ n) b (c ∷ q) s h
      (divide_step F L (elements o b) (elements o n) (elements o q) (elements o r) (elements o s) (digit o x) (digit o c)
      (division_to_act o n b q r e)
      (λ k.
      element_at o s k ∙ ap (digit o) (f k) ∙ digit-add o _ _
      ∙ ap₂ F.add (sym (element_at o (x ∷ r) k))
      (digit-mul o _ _ ∙ ap₂ F.mul (digit-neg o c) (sym (element_at o b k)))))

  pub division_start : (b r : List ℕ) → ((k : ℕ) → slice_index r k ≡ 0) → (k : ℕ) → slice_index [] k ≡ add_of o (product_at o b [] k) (slice_index r k)
  division_start b r z k = sym (ap₂ (add_of o) (sum_to_zero o (suc k) _ (λ i l. mul_zero o _)) (z k) ∙ zero_add_zero o)

  -- the multiple that cancels the last coefficient y, where b ends with a
  pub cancels : (y a : ℕ) → a < number_of o → a ≢ 0 → y < number_of o → add_of o y (mul_of o (neg_of o (mul_of o y (inv_of o a))) a) ≡ 0
  cancels y a l ne m =
      digit-injective o _ 0 (add_lt o _ _) (number_pos o)
      (digit-add o y _
      ∙ ap (F.add (digit o y))
      (digit-mul o _ _ ∙ ap (λ z. F.mul z (digit o a)) (digit-neg o (mul_of o y (inv_of o a)))
      ∙ neg-mul F L (digit o (mul_of o y (inv_of o a))) (digit o a)
      ∙ ap F.neg (sym (digit-mul o (mul_of o y (inv_of o a)) a) ∙ ap (digit o) whole))
      ∙ L.add_neg (digit o y))
    where
      whole : mul_of o (mul_of o y (inv_of o a)) a ≡ y
      whole = mul_assoc o y (inv_of o a) a ∙ ap (mul_of o y) (mul_comm o (inv_of o a) a ∙ mul_inv o a l ne) ∙ mul_one o y m

  -- what is left, cut to the degree d of b
  abbrev pub IsCut : List ℕ → List ℕ → List ℕ → ℕ → ℕ → Type 0
  IsCut b xs s d c = (k : ℕ) → k < d → get_or s k 0 ≡ add_of o (get_or xs k 0) (mul_of o (neg_of o c) (get_or b k 0))

  rest_step : (b xs s : List ℕ) (d c : ℕ) → AllElements o b → AllElements o xs → length b ≡ suc d → get_or b d 0 ≢ 0 → length xs ≡ suc d
      → c ≡ mul_of o (get_or xs d 0) (inv_of o (get_or b d 0)) → IsCut b xs s d c → length s ≡ d
      → (k : ℕ) → get_or s k 0 ≡ add_of o (get_or xs k 0) (mul_of o (neg_of o c) (get_or b k 0))
  rest_step b xs s d c hb hx size lead size_x e low short k = elim (cases_lt k d) [
    | inl l ↦ low k l
    | inr l ↦ get_or_past s k 0 (omega arith) ∙ sym (elim (cases_eq k d) [
      | inl q ↦ subst (λ i. add_of o (get_or xs i 0) (mul_of o (neg_of o c) (get_or b i 0)) ≡ 0) (sym q)
          (ap (λ f. add_of o (get_or xs d 0) (mul_of o (neg_of o f) (get_or b d 0))) e ∙ cancels (get_or xs d 0) (get_or b d 0) (hb d) lead (hx d))
      | inr ne ↦ multiple_past o xs b (neg_of o c) k (omega arith) (omega arith)
    ])
  ]

  -- the quotient gets c at place j
  pub division_step : (a b qs r s : List ℕ) (d j c : ℕ) → AllElements o a → AllElements o b → AllElements o r → j < length a → j < length qs
      → length b ≡ suc d → get_or b d 0 ≢ 0 → length r ≡ d
      → c ≡ mul_of o (get_or (get_or a j 0 ∷ r) d 0) (inv_of o (get_or b d 0)) → IsCut b (get_or a j 0 ∷ r) s d c → length s ≡ d
      → ((k : ℕ) → slice_index (drop (j + 1) a) k ≡ add_of o (product_at o b (drop (j + 1) qs) k) (slice_index r k))
      → (k : ℕ) → slice_index (drop j a) k ≡ add_of o (product_at o b (drop j (set qs j c)) k) (slice_index s k)
  division_step a b qs r s d j c ha hb hr l m size lead size_r e low short f =
      subst (λ xs. (k : ℕ) → slice_index xs k ≡ add_of o (product_at o b (drop j (set qs j c)) k) (slice_index s k)) (sym (drop_more a j 0 l))
      (subst (λ ys. (k : ℕ) → slice_index (get_or a j 0 ∷ drop (j + 1) a) k ≡ add_of o (product_at o b ys k) (slice_index s k)) (sym (drop-set qs j c m))
      (division_more b (drop (j + 1) a) (drop (j + 1) qs) r s (get_or a j 0) c
      (λ k. subst (λ xs. get_or xs k 0 < number_of o) (drop_more a j 0 l) (subst (λ x. x < number_of o) (sym (get_or-drop j a k 0)) (ha (j + k))))
      f
      (rest_step b (get_or a j 0 ∷ r) s d c hb longer size lead (ap suc size_r) e low short)))
    where
      longer : AllElements o (get_or a j 0 ∷ r)
      longer zero = ha j
      longer (suc k) = hr k

  -- ---- Euclid's algorithm

  minus_one : (y : Digit (number_of o)) → F.mul (digit o (neg_of o 1)) y ≡ F.neg y
  minus_one y = ap (λ z. F.mul z y) (digit-neg o 1) ∙ neg-mul F L F.one y ∙ ap F.neg (one_mul F L y)

  pub greatest_step : (a b q r d u v x t : List ℕ) → AllElements o a → AllElements o d → IsDivision o a b q r → IsGreatest o b r u v d → IsProduct o v q x
      → ((n : ℕ) → slice_index t n ≡ add_of o (slice_index u n) (mul_of o (neg_of o 1) (slice_index x n))) → IsGreatest o a b v t d
  greatest_step a b q r d u v x t ha hd division greatest product multiple = record {
    monic = greatest.monic;
    sum =
        pair_from_act o v a t b d hd
        (gcd_step F L (elements o a) (elements o b) (elements o q) (elements o r) (elements o d) (elements o u) (elements o v) (elements o t)
        split
        (pair_to_act o u b v r d greatest.sum)
        (λ w l. multiple_to_act o u x t (neg_of o 1) multiple w l ∙ ap (F.add (acts o u w l)) (minus_one (acts o x w l) ∙ ap F.neg (product_to_act o v q x product w l))));
    first =
        divides_from o d a ha
        (divides_sum F L (elements o d) (elements o a) (poly_mul F (elements o q) (elements o b)) (elements o r) F.one
        (divides_product F L (elements o d) (elements o q) (elements o b) (divides_to o d b greatest.first))
        (divides_to o d r greatest.second)
        (λ w l. split w l ∙ ap₂ F.add (sym (act_mul F L (elements o q) (elements o b) w l)) (sym (one_mul F L (acts o r w l)))));
    second = greatest.first;
  }
    where
      split : (w : ℕ → Digit (number_of o)) (l : ℕ) → acts o a w l ≡ F.add (acts o q (acts o b w) l) (acts o r w l)
      split = division_to_act o a b q r division.sum

  -- a, divided by its last coefficient
  pub greatest_start : (a d u v : List ℕ) (n : ℕ) → IsPolynomial o a → IsPolynomial o d → length a ≡ suc n
      → ((k : ℕ) → slice_index d k ≡ mul_of o (inv_of o (slice_index a n)) (slice_index a k))
      → ((k : ℕ) → slice_index u k ≡ slice_index (inv_of o (slice_index a n) ∷ []) k) → ((k : ℕ) → slice_index v k ≡ 0) → IsGreatest o a [] u v d
  greatest_start a d u v n ha hd size e eu ev = record {
    monic = (n, (length_top o d n hd not_zero above, top));
    sum =
        pair_from_act o u a v [] d hd.elements
        (λ w l.
        acts_d w l
        ∙ sym (ap₂ F.add
        (acts_of o u (digit o s ∷ []) (λ k. ap (digit o) (eu k) ∙ sym (element_at o (s ∷ []) k)) (acts o a w) l
        ∙ L.add_null (F.mul (digit o s) (acts o a w l)))
        (acts_of o v [] (λ k. ap (digit o) (ev k)) (acts o [] w) l)
        ∙ L.add_null (F.mul (digit o s) (acts o a w l))));
    first =
        divides_from o d a ha.elements (
          digit o c ∷ [],
          λ w l.
              sym (L.add_null (F.mul (digit o c) (acts o d w l)) ∙ ap (F.mul (digit o c)) (acts_d w l)
              ∙ sym (L.mul_assoc (digit o c) (digit o s) (acts o a w l))
              ∙ ap (λ y. F.mul y (acts o a w l)) (sym (digit-mul o c s) ∙ ap (digit o) unit)
              ∙ one_mul F L (acts o a w l)),
        );
    second = divides_from o d [] (λ k. number_pos o) ([], λ w l. refl);
  }
    where
      c : ℕ
      c = get_or a n 0

      s : ℕ
      s = inv_of o (get_or a n 0)

      c_apart : get_or a n 0 ≢ 0
      c_apart = subst (λ k. get_or a k 0 ≢ 0) {x = length a - 1} {y = n} (omega arith) (ha.lead (omega arith))

      unit : mul_of o (get_or a n 0) (inv_of o (get_or a n 0)) ≡ 1
      unit = mul_inv o (get_or a n 0) (ha.elements n) c_apart

      top : get_or d n 0 ≡ 1
      top = e n ∙ mul_comm o _ _ ∙ unit

      not_zero : get_or d n 0 ≢ 0
      not_zero z = let t : get_or d n 0 ≡ 1 = top in omega (arith, t, z)

      above : (i : ℕ) → n < i → get_or d i 0 ≡ 0
      above i l = e i ∙ ap (mul_of o (inv_of o (get_or a n 0))) (get_or_past a i 0 (omega arith)) ∙ mul_zero o _

      acts_d : (w : ℕ → Digit (number_of o)) (l : ℕ) → acts o d w l ≡ F.mul (digit o (inv_of o (get_or a n 0))) (acts o a w l)
      acts_d w l = multiple_to_act o [] a d (inv_of o (get_or a n 0)) (λ k. e k ∙ sym (zero_add o _ (mul_lt o _ _))) w l ∙ null_add F L _
