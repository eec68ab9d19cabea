-- Expansions of x^u / D in powers of 1/x over any field, each behind as many zeros as D has as its degree.
use Rattle.std.proofs.Common.{◌≡◌, ℕ, zero, suc, ◌+◌, ◌-◌, ◌<◌, ◌≤◌, List, get_or, inl, inr, refl, sym, ap, ap₂, ◌∙◌, arith}
use Rattle.std.proofs.lemmas.Bool.{cases_eq, cases_lt}
use Rattle.mt_linear.proofs.Abstract.{Ops, HasFieldLaws, sum_of, sum_cong, mul_null}
use Rattle.mt_linear.proofs.Sums.{null_mul}
use Rattle.mt_system.proofs.Distance.{pick, pick_low, pick_high}
use Rattle.mt_poly.proofs.Action.{poly_mul, act, mark, mark_here, mark_else, act_zero, act_null, act_shifts, act_mul}
use Rattle.mt_poly.proofs.Monic.{HasDegree, monic-act, monic_lead, monic_same, monic_mul}

-- n zeros, and then the expansion of x^u / D, for D of degree n: the product with D, read from x^(n - 1) down, is 1 at x^u and else 0
pub record IsExpansion {K : Type 0} (F : Ops K) (D : List K) (n u : ℕ) (v : ℕ → K) : Type 0 where
  pub start : (j : ℕ) → j < n → v j ≡ F.null
  pub product : (l : ℕ) → act F D v l ≡ mark F (n - suc u) l

-- n zeros, and then w
abbrev pub padded : {K : Type 0} → Ops K → ℕ → (ℕ → K) → ℕ → K
padded F n w l = pick l n F.null (w (l - n))

-- n terms, from term l, of the sequence that begins with n zeros and whose product with D is g
abbrev window : {K : Type 0} → Ops K → List K → ℕ → (ℕ → K) → ℕ → ℕ → K
window F D n g zero j = F.null
window F D n g (suc l) j =
    pick (suc j) n (window F D n g l (suc j)) (F.add (g l) (F.neg (sum_of F n (λ i. F.mul (get_or D i F.null) (window F D n g l i)))))

-- the expansion of x^u / D behind n zeros
pub expansion : {K : Type 0} → Ops K → List K → ℕ → ℕ → ℕ → K
expansion F D n u l = window F D n (mark F (n - suc u)) l 0

window_at : {K : Type 0} (F : Ops K) (D : List K) (n u j l : ℕ) → j < n → window F D n (mark F (n - suc u)) l j ≡ expansion F D n u (l + j)
unfolding expansion
window_at F D n u zero l h = ap (λ i. window F D n (mark F (n - suc u)) i 0) (omega arith)
window_at F D n u (suc j) l h =
    sym (pick_low (suc j) n _ _ h) ∙ window_at F D n u j (suc l) (omega arith) ∙ ap (λ i. window F D n (mark F (n - suc u)) i 0) (omega arith)

module _ {K : Type 0} (F : Ops K) (L : HasFieldLaws F) where
  pub expansion_is : (D : List K) (n u : ℕ) → HasDegree F D n → 0 < n → IsExpansion F D n u (expansion F D n u)
  expansion_is D n u h positive = record {
    start = λ j k. ap (expansion F D n u) (omega arith) ∙ sym (window_at F D n u j 0 k);
    product = λ l.
        monic-act F L D n h (expansion F D n u) l
        ∙ ap₂ F.add
        (sum_cong F n _ _ (λ j k. ap (F.mul (get_or D j F.null)) (sym (window_at F D n u j l k))))
        (ap (expansion F D n u) (omega arith) ∙ sym (window_at F D n u (n - 1) (suc l) (omega arith)) ∙ pick_high (suc (n - 1)) n _ _ (omega arith))
        ∙ regroup (sum_of F n (λ i. F.mul (get_or D i F.null) (window F D n (mark F (n - suc u)) l i))) (mark F (n - suc u) l);
  }
    where
      regroup : (a b : K) → F.add a (F.add b (F.neg a)) ≡ b
      regroup a b = L.add_comm a _ ∙ L.add_assoc b (F.neg a) a ∙ ap (F.add b) (L.add_comm (F.neg a) a ∙ L.add_neg a) ∙ L.add_null b

  -- it begins with zeros and 1
  pub expansion_low : (D : List K) (n u : ℕ) → HasDegree F D n → (v : ℕ → K) → IsExpansion F D n u v → (l : ℕ) → l < n + (n - suc u) → v l ≡ F.null
  expansion_low D n u h v x l k =
      monic_same F L D n (n + (n - suc u)) h v (λ i. F.null) x.start
      (λ i g. x.product i ∙ mark_else F (n - suc u) i (λ e. omega arith) ∙ sym (act_null F L D (λ i. F.null) (λ i. refl) i)) l k

  pub expansion_lead : (D : List K) (n u : ℕ) → HasDegree F D n → (v : ℕ → K) → IsExpansion F D n u v → v (n - suc u + n) ≡ F.one
  expansion_lead D n u h v x =
      sym (monic_lead F L D n h v (n - suc u) (λ j g. expansion_low D n u h v x (n - suc u + j) (omega arith)))
      ∙ x.product (n - suc u)
      ∙ mark_here F (n - suc u) (n - suc u) refl

  -- a list of terms whose product with D is right as far as it goes is its beginning
  pub expansion_begins : (D : List K) (n u len : ℕ) → HasDegree F D n → (v w : ℕ → K) → IsExpansion F D n u v
      → ((l : ℕ) → l < len → act F D (padded F n w) l ≡ mark F (n - suc u) l) → (l : ℕ) → l < len → w l ≡ v (n + l)
  expansion_begins D n u len h v w x e l k =
      ap w (omega arith)
      ∙ sym (pick_high (n + l) n F.null (w (n + l - n)) (omega arith))
      ∙ monic_same F L D n (n + len) h (padded F n w) v
      (λ j g. pick_low j n F.null (w (j - n)) g ∙ sym (x.start j g))
      (λ i g. e i (omega arith) ∙ sym (x.product i)) (n + l) (omega arith)

  -- p times the expansion of x^u / (D * p) is that of x^u / D, behind e more zeros
  pub expansion_shift : (D p : List K) (n e u : ℕ) → HasDegree F D n → HasDegree F p e → u < n → e ≤ n
      → (v y : ℕ → K) → IsExpansion F D n u v → IsExpansion F (poly_mul F D p) (n + e) u y → (l : ℕ) → act F p y (e + l) ≡ v l
  expansion_shift D p n e u h g low le v y x z l =
      monic_same F L D n (suc l) h (λ i. act F p y (e + i)) v
      (λ j k. act_zero F L p y (e + j) (λ i. before j i k) ∙ sym (x.start j k))
      (λ i k. act_shifts F L D e (act F p y) i ∙ sym (act_mul F L D p y (e + i)) ∙ z.product (e + i) ∙ same i ∙ sym (x.product i)) l (omega arith)
    where
      before : (j i : ℕ) → j < n → F.mul (get_or p i F.null) (y (e + j + i)) ≡ F.null
      before j i k = elim (cases_lt e i) [
        | inl r ↦ ap (λ a. F.mul a (y (e + j + i))) (g.above i r) ∙ null_mul F L (y (e + j + i))
        | inr r ↦
            ap (F.mul (get_or p i F.null)) (expansion_low (poly_mul F D p) (n + e) u (monic_mul F L D p n e h g) y z (e + j + i) (omega arith))
            ∙ mul_null F L (get_or p i F.null)
      ]

      same : (i : ℕ) → mark F (n + e - suc u) (e + i) ≡ mark F (n - suc u) i
      same i = elim (cases_eq i (n - suc u)) [
        | inl k ↦ mark_here F (n + e - suc u) (e + i) (omega arith) ∙ sym (mark_here F (n - suc u) i k)
        | inr k ↦ mark_else F (n + e - suc u) (e + i) (λ q. k (omega arith)) ∙ sym (mark_else F (n - suc u) i k)
      ]
