-- The list of pairwise coprime polynomials has a next member, and what its members are.
use Rattle.std.proofs.Common.{◌≡◌, ◌≢◌, inl, inr, ℕ, zero, suc, ◌+◌, ◌-◌, ◌<◌, ◌≤◌, List, [], ◌∷◌, ◌++◌, length, map, take, slice_index, get_or, refl, sym, ap, ap₂, ◌∙◌, subst, arith}
use Rattle.std.specs.List.{All, AllPairs}
use Rattle.std.proofs.Math.Seq.{take-suc}
use Rattle.std.proofs.lemmas.Bool.{cases_lt, cases_eq}
use Rattle.std.proofs.lemmas.List.{get_or_past, get_or_push, get_or_append_left, get_or-take, get_or_default, length_push, length-take, take_all, take_at, take-append-le, same_lists}
use Rattle.std.proofs.lemmas.List.Elements.{All-head, All-tail}
use Rattle.mt_linear.specs.declared.order.Order.{Order}
use Rattle.mt_linear.specs.Field.{number_of}
use Rattle.mt_linear.specs.Linear.{AllElements}
use Rattle.mt_linear.proofs.FieldLaws.{number_pos, one_below}
use Rattle.mt_linear.proofs.Abstract.{Ops, HasFieldLaws, Digit, digit, digit-injective, field_of, field_laws}
use Rattle.mt_linear.proofs.Sums.{neg-mul}
use Rattle.mt_poly.specs.Polynomials.{IsPolynomial, IsMonic, IsMember, IsCoprime}
use Rattle.mt_poly.specs.CoprimeLists.{number_by, MayFollow, IsNext, IsCoprimeList}
use Rattle.mt_poly.proofs.Action.{poly_add, act, one_mul, act-poly_add, coef_add}
use Rattle.mt_poly.proofs.Monic.{HasDegree, monic_one, monic_mul}
use Rattle.mt_poly.proofs.Divisibility.{poly_product, Divides, divides_product, divides_factor, divides_sum, unit_constant}
use Rattle.mt_poly.proofs.ListLemmas.{length_top}
use Rattle.mt_poly.proofs.CoprimalityLemmas.{divides_itself}
use Rattle.mt_poly.proofs.NumberLemmas.{number_same, number_least}
use Rattle.mt_poly.proofs.PolynomialBridge.{elements, acts, element_at, acts_of, numbers, numbers_in, numbers_at, degree_lifted, divides_to}

-- the sum of the degrees
abbrev total : List (List ℕ) → ℕ
total [] = 0
total (p ∷ ps) = length p - 1 + total ps

-- the product of the polynomials, and 1
abbrev product_more : (o : Order) → List (List ℕ) → List (Digit (number_of o))
product_more o ps = poly_add (field_of o) (poly_product (field_of o) (map (elements o) ps)) (digit o 1 ∷ [])

-- one that may follow: x after none, else the product and 1
pub bound : Order → List (List ℕ) → List ℕ
bound o [] = 0 ∷ 1 ∷ []
bound o (p ∷ ps) = numbers (suc (total (p ∷ ps))) (λ i. get_or (product_more o (p ∷ ps)) i (digit o 0))

length_numbers : {q : ℕ} (n : ℕ) (f : ℕ → Digit q) → length (numbers n f) ≡ n
length_numbers zero f = refl
length_numbers (suc n) f = ap suc (length_numbers n (λ i. f (suc i)))

pub monic_member : (o : Order) (p : List ℕ) → IsMember o p → IsMonic p (length p - 1)
monic_member o p (h, (n, l, monic)) = let e : length p ≡ suc n = monic.0 in subst (IsMonic p) (omega arith) monic

pub positive_member : (o : Order) (p : List ℕ) → IsMember o p → 0 < length p - 1
positive_member o p (h, (n, l, monic)) = let e : length p ≡ suc n = monic.0 in omega arith

module _ (o : Order) where
  abbrev F : Ops (Digit (number_of o))
  F = field_of o

  abbrev L : HasFieldLaws (field_of o)
  L = field_laws o

  degree_of_member : (p : List ℕ) → IsMember o p → HasDegree F (elements o p) (length p - 1)
  degree_of_member p h = degree_lifted o p (length p - 1) (monic_member o p h)

  degree_of_product : (ps : List (List ℕ)) → All (IsMember o) ps → HasDegree F (poly_product F (map (elements o) ps)) (total ps)
  degree_of_product [] h = monic_one F L
  degree_of_product (p ∷ ps) h =
      monic_mul F L (elements o p) (poly_product F (map (elements o) ps)) (length p - 1) (total ps)
      (degree_of_member p (All-head (IsMember o) p ps h)) (degree_of_product ps (All-tail (IsMember o) p ps h))

  -- each factor divides the product
  divides_factors : (d : List (Digit (number_of o))) (ps : List (List ℕ)) (k : ℕ) → k < length ps → Divides F d (elements o (get_or ps k []))
      → Divides F d (poly_product F (map (elements o) ps))
  divides_factors d [] k l h = absurd (omega arith)
  divides_factors d (p ∷ ps) zero l h = divides_factor F L d (elements o p) (poly_product F (map (elements o) ps)) h
  divides_factors d (p ∷ ps) (suc k) l h =
      divides_product F L d (elements o p) (poly_product F (map (elements o) ps)) (divides_factors d ps k (omega arith) h)

  -- no factor has a divisor with the product and 1 but constants
  coprime_factor : (ps : List (List ℕ)) (b : List ℕ) (k : ℕ) → k < length ps
      → ((i : ℕ) → digit o (slice_index b i) ≡ get_or (product_more o ps) i (digit o 0)) → IsCoprime o (get_or ps k []) b
  coprime_factor ps b k l e d hd first second n g =
      digit-injective o _ 0 (hd n) (number_pos o)
      (sym (element_at o d n)
      ∙ unit_constant F L (elements o d)
      (divides_sum F L (elements o d) (F.one ∷ []) (elements o b) (poly_product F (map (elements o) ps)) (F.neg F.one)
      (divides_to o d b second)
      (divides_factors (elements o d) ps k l (divides_to o d (get_or ps k []) first))
      rest)
      n g)
    where
      P : List (Digit (number_of o))
      P = poly_product F (map (elements o) ps)

      rest : (w : ℕ → Digit (number_of o)) (i : ℕ)
          → act F (F.one ∷ []) w i ≡ F.add (acts o b w i) (F.mul (F.neg F.one) (act F (poly_product F (map (elements o) ps)) w i))
      rest w i = sym (
          ap₂ F.add (acts_of o b (product_more o ps) e w i ∙ act-poly_add F L P (F.one ∷ []) w i ∙ L.add_comm (act F P w i) (act F (F.one ∷ []) w i))
          (neg-mul F L F.one (act F P w i) ∙ ap F.neg (one_mul F L (act F P w i)))
          ∙ L.add_assoc (act F (F.one ∷ []) w i) (act F P w i) (F.neg (act F P w i))
          ∙ ap (F.add (act F (F.one ∷ []) w i)) (L.add_neg (act F P w i)) ∙ L.add_null (act F (F.one ∷ []) w i))

  pub bound_follows : (ps : List (List ℕ)) → All (IsMember o) ps → MayFollow o ps (bound o ps)
  unfolding bound
  bound_follows [] h = ((x_in, (1, omega arith, (refl, refl))), λ k d l. absurd (omega arith))
    where
      x_in : AllElements o (0 ∷ 1 ∷ [])
      x_in zero = number_pos o
      x_in (suc zero) = one_below o
      x_in (suc (suc k)) = number_pos o
  bound_follows (p ∷ ps) h = (
    (numbers_in o (suc n) f, (n, positive, (length_numbers (suc n) f, lead))),
    λ k d l. subst (λ q. IsCoprime o q (numbers (suc n) f)) (get_or_default (p ∷ ps) k [] d l)
        (coprime_factor (p ∷ ps) (numbers (suc n) f) k l (numbers_at o (suc n) f (λ i g. top.above i g))),
  )
    where
      n : ℕ
      n = total (p ∷ ps)

      f : ℕ → Digit (number_of o)
      f i = get_or (product_more o (p ∷ ps)) i (digit o 0)

      positive : 1 ≤ total (p ∷ ps)
      positive = omega (arith, positive_member o p (All-head (IsMember o) p ps h))

      product : HasDegree F (poly_product F (map (elements o) (p ∷ ps))) (total (p ∷ ps))
      product = degree_of_product (p ∷ ps) h

      top : HasDegree F (product_more o (p ∷ ps)) (total (p ∷ ps))
      top = record {
        here =
            coef_add F L (poly_product F (map (elements o) (p ∷ ps))) (F.one ∷ []) (total (p ∷ ps))
            ∙ ap₂ F.add product.here (get_or_past (F.one ∷ []) (total (p ∷ ps)) F.null positive) ∙ L.add_null F.one;
        above = λ i g.
            coef_add F L (poly_product F (map (elements o) (p ∷ ps))) (F.one ∷ []) i
            ∙ ap₂ F.add (product.above i g) (get_or_past (F.one ∷ []) i F.null (omega (arith, positive))) ∙ L.add_null F.null;
      }

      lead : slice_index (numbers (suc n) f) n ≡ 1
      lead = digit-injective o _ 1 (numbers_in o (suc n) f n) (one_below o) (numbers_at o (suc n) f (λ i g. top.above i g) n ∙ top.here)

  -- ---- the walk

  member_apart : (r : List ℕ) (h : IsMember o r) → get_or r h.1.0 0 ≢ 0
  member_apart r h z = let one : get_or r h.1.0 0 ≡ 1 = h.1.2.1 in omega (arith, one, z)

  -- no member has a lesser number than x
  pub walk_start : (r : List ℕ) → IsMember o r → number_of o ≤ number_by (number_of o) r
  walk_start r h = number_least (number_of o) r h.1.0 (number_pos o) h.1.1 (member_apart r h)

  same_member : (p r : List ℕ) → IsPolynomial o p → IsMember o r → number_by (number_of o) p ≡ number_by (number_of o) r → p ≡ r
  same_member p r hp hr e =
      same_lists p r sizes
      (λ k d l. get_or_default p k d 0 l ∙ same k ∙ get_or_default r k 0 d (omega (arith, sizes)))
    where
      same : (i : ℕ) → get_or p i 0 ≡ get_or r i 0
      same = number_same (number_of o) p r (number_pos o) hp.elements hr.0 e

      sizes : length p ≡ length r
      sizes =
          let size : length r ≡ suc hr.1.0 = hr.1.2.0 in
          length_top o p hr.1.0 hp (λ z. member_apart r hr (sym (same hr.1.0) ∙ z)) (λ i g. same i ∙ get_or_past r i 0 (omega arith)) ∙ sym size

  -- one that may not follow is passed
  pub walk_step : (kept : List (List ℕ)) (p : List ℕ) → IsPolynomial o p → (MayFollow o kept p → ⊥) → (r : List ℕ) → MayFollow o kept r
      → number_by (number_of o) p ≤ number_by (number_of o) r → number_by (number_of o) p + 1 ≤ number_by (number_of o) r
  walk_step kept p hp none r hr l = elim (cases_eq (number_by (number_of o) p) (number_by (number_of o) r)) [
    | inl e ↦ absurd (none (subst (MayFollow o kept) (sym (same_member p r hp hr.0 e)) hr))
    | inr ne ↦ omega arith
  ]

  polynomial_of_member : (p : List ℕ) → IsMember o p → IsPolynomial o p
  polynomial_of_member p h = record {
    elements = h.0;
    lead = λ l z.
        let size : length p ≡ suc h.1.0 = h.1.2.0 in
        member_apart p h (ap (λ k. get_or p k 0) {x = h.1.0} {y = length p - 1} (omega arith) ∙ z);
  }

  -- once it is kept, those that may follow have greater numbers
  pub walk_push : (kept : List (List ℕ)) (p : List ℕ) → IsNext o kept p → (r : List ℕ) → MayFollow o (kept ++ p ∷ []) r
      → number_by (number_of o) p + 1 ≤ number_by (number_of o) r
  walk_push kept p next r h =
      walk_step (kept ++ p ∷ []) p (polynomial_of_member p next.follows.0) none r h
      (next.least r (h.0, λ k d l. subst (λ q. IsCoprime o q r) (get_or_append_left kept (p ∷ []) d k l) (h.1 k d (omega (arith, length_push kept p)))))
    where
      none : MayFollow o (kept ++ p ∷ []) p → ⊥
      none f =
          member_apart p next.follows.0
          (subst (λ q. IsCoprime o q p) (get_or_push kept p [] (length kept) refl) (f.1 (length kept) [] (omega (arith, length_push kept p)))
          p next.follows.0.0 (divides_itself o p next.follows.0.0) (divides_itself o p next.follows.0.0) next.follows.0.1.0 next.follows.0.1.1)

  -- ---- the list

  pub list_push : (ps : List (List ℕ)) (p : List ℕ) → IsCoprimeList o ps → IsNext o ps p → IsCoprimeList o (ps ++ p ∷ [])
  list_push ps p h next n l = elim (cases_lt n (length ps)) [
    | inl g ↦
        subst (IsNext o (take n (ps ++ p ∷ []))) (sym (get_or_append_left ps (p ∷ []) [] n g))
        (subst (λ qs. IsNext o qs (get_or ps n [])) (sym (take-append-le n ps (p ∷ []) (omega arith))) (h n g))
    | inr g ↦
        let e : length ps ≡ n = omega (arith, length_push ps p) in
        subst (IsNext o (take n (ps ++ p ∷ []))) (sym (get_or_push ps p [] n e))
        (subst (λ qs. IsNext o qs p) (sym (take_at ps (p ∷ []) n e)) next)
  ]

  pub list_members : (ps : List (List ℕ)) → IsCoprimeList o ps → All (IsMember o) ps
  list_members ps h k d l = subst (IsMember o) (get_or_default ps k [] d l) (h k l).follows.0

  pub list_coprime : (ps : List (List ℕ)) → IsCoprimeList o ps → AllPairs (IsCoprime o) ps
  list_coprime ps h i j d l m =
      subst (IsCoprime o (get_or ps i d)) (get_or_default ps j [] d m)
      (subst (λ q. IsCoprime o q (get_or ps j [])) (get_or-take j ps i d l)
      ((h j m).follows.1 i d (omega (arith, length-take j ps))))

  -- ---- there is one list of each length

  same_next : (kept : List (List ℕ)) (p r : List ℕ) → IsNext o kept p → IsNext o kept r → p ≡ r
  same_next kept p r h g =
      let below : number_by (number_of o) p ≤ number_by (number_of o) r = h.least r g.follows in
      let above : number_by (number_of o) r ≤ number_by (number_of o) p = g.least p h.follows in
      same_member p r (polynomial_of_member p h.follows.0) g.follows.0 (omega arith)

  same_prefix : (ps qs : List (List ℕ)) → IsCoprimeList o ps → IsCoprimeList o qs → length ps ≡ length qs → (n : ℕ) → n ≤ length ps → take n ps ≡ take n qs
  same_prefix ps qs h g e zero l = refl
  same_prefix ps qs h g e (suc n) l =
      let before : take n ps ≡ take n qs = same_prefix ps qs h g e n (omega arith) in
      take-suc ps n [] l
      ∙ ap₂ (λ xs x. xs ++ x ∷ []) before
      (same_next (take n qs) (get_or ps n []) (get_or qs n []) (subst (λ xs. IsNext o xs (get_or ps n [])) before (h n l)) (g n (omega arith)))
      ∙ sym (take-suc qs n [] (omega arith))

  pub list_unique : (ps qs : List (List ℕ)) → IsCoprimeList o ps → IsCoprimeList o qs → length ps ≡ length qs → ps ≡ qs
  list_unique ps qs h g e =
      sym (take_all (length ps) ps (omega arith)) ∙ same_prefix ps qs h g e (length ps) (omega arith) ∙ take_all (length ps) qs (omega arith)
