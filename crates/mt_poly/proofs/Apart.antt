-- Polynomials over any field that kill no common sequence but zero.
use Rattle.std.proofs.Common.{◌≡◌, ℕ, zero, suc, ◌<◌, List, [], ◌∷◌, inl, inr, sym, ap, ◌∙◌, arith}
use Rattle.std.proofs.lemmas.Bool.{cases_lt}
use Rattle.mt_linear.proofs.Abstract.{Ops, HasFieldLaws, sum_of, sum_null, null_add}
use Rattle.mt_poly.proofs.Action.{poly_mul, poly_power, act, Kills, act_null, act_add, act_sum, act_one, act_mul, act_comm}

abbrev pub IsApart : {K : Type 0} → Ops K → List K → List K → Type 0
IsApart {K} F p q = (w : ℕ → K) → Kills F p w → Kills F q w → (l : ℕ) → w l ≡ F.null

-- the product of P 0, .., P (s - 1)
abbrev pub product_of : {K : Type 0} → Ops K → ℕ → (ℕ → List K) → List K
product_of F zero P = F.one ∷ []
product_of F (suc s) P = poly_mul F (product_of F s P) (P s)

module _ {K : Type 0} (F : Ops K) (L : HasFieldLaws F) where
  apart_swap : (p q : List K) → IsApart F p q → IsApart F q p
  apart_swap p q h w a b = h w b a

  apart_one : (q : List K) → IsApart F (F.one ∷ []) q
  apart_one q w a b l = sym (act_one F L w l) ∙ a l

  apart_mul : (p r q : List K) → IsApart F p q → IsApart F r q → IsApart F (poly_mul F p r) q
  apart_mul p r q h g w a b =
      g w (h (act F r w) (λ l. sym (act_mul F L p r w l) ∙ a l) (λ l. act_comm F L q r w l ∙ act_null F L r (act F q w) b l)) b

  apart_power : (p q : List K) → IsApart F p q → (n : ℕ) → IsApart F (poly_power F p n) q
  apart_power p q h zero = apart_one q
  apart_power p q h (suc n) = apart_mul (poly_power F p n) p q (apart_power p q h n) h

  pub apart_powers : (p q : List K) → IsApart F p q → (n k : ℕ) → IsApart F (poly_power F p n) (poly_power F q k)
  apart_powers p q h n k = apart_power p (poly_power F q k) (apart_swap _ _ (apart_power q p (apart_swap p q h) k)) n

  product_apart : (s : ℕ) (P : ℕ → List K) (q : List K) → ((i : ℕ) → i < s → IsApart F (P i) q) → IsApart F (product_of F s P) q
  product_apart zero P q h = apart_one q
  product_apart (suc s) P q h =
      apart_mul (product_of F s P) (P s) q (product_apart s P q (λ i g. h i (omega arith))) (h s (omega arith))

  -- a product kills what its factors kill
  product_kills : (s : ℕ) (P : ℕ → List K) (i : ℕ) (w : ℕ → K) → i < s → Kills F (P i) w → Kills F (product_of F s P) w
  product_kills zero P i w g h l = absurd (omega arith)
  product_kills (suc s) P i w g h l = act_mul F L (product_of F s P) (P s) w l ∙ elim (cases_lt i s) [
    | inl k ↦ act_comm F L (product_of F s P) (P s) w l ∙ act_null F L (P s) _ (product_kills s P i w k h) l
    | inr k ↦ act_null F L (product_of F s P) _ (λ j. ap (λ n. act F (P n) w j) (omega arith) ∙ h j) l
  ]

  pub product_kills_sum : (s : ℕ) (P : ℕ → List K) (w : ℕ → ℕ → K) → ((i : ℕ) → i < s → Kills F (P i) (w i))
      → Kills F (product_of F s P) (λ l. sum_of F s (λ i. w i l))
  product_kills_sum s P w h l =
      act_sum F L (product_of F s P) s w l ∙ sum_null F L s _ (λ i g. product_kills s P i (w i) g (h i g) l)

  -- sequences that are killed by polynomials apart from one another have the sum zero only where all are zero
  pub direct : (s : ℕ) (P : ℕ → List K) (w : ℕ → ℕ → K) → ((i j : ℕ) → i < s → j < i → IsApart F (P j) (P i))
      → ((i : ℕ) → i < s → Kills F (P i) (w i)) → ((l : ℕ) → sum_of F s (λ i. w i l) ≡ F.null) → (i : ℕ) → i < s → (l : ℕ) → w i l ≡ F.null
  direct zero P w a h z i g l = absurd (omega arith)
  direct (suc s) P w a h z i g l = elim (cases_lt i s) [
    | inl k ↦ direct s P w (λ i j g k. a i j (omega arith) k) (λ i g. h i (omega arith)) others i k l
    | inr k ↦ ap (λ n. w n l) (omega arith) ∙ last l
  ]
    where
      -- the last sequence is the negative of the sum of the others
      killed : Kills F (product_of F s P) (w s)
      killed l =
          sym (null_add F L _)
          ∙ ap (λ x. F.add x (act F (product_of F s P) (w s) l)) (sym (product_kills_sum s P w (λ i g. h i (omega arith)) l))
          ∙ sym (act_add F L (product_of F s P) (λ l. sum_of F s (λ i. w i l)) (w s) l)
          ∙ act_null F L (product_of F s P) _ z l

      last : (l : ℕ) → w s l ≡ F.null
      last = product_apart s P (P s) (λ i g. a s i (omega arith) g) (w s) killed (h s (omega arith))

      others : (l : ℕ) → sum_of F s (λ i. w i l) ≡ F.null
      others l = sym (L.add_null _) ∙ ap (F.add (sum_of F s (λ i. w i l))) (sym (last l)) ∙ z l
