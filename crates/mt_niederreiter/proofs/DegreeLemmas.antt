-- Niederreiter's theorem over any field.
use Rattle.std.proofs.Common.{◌≡◌, ℕ, zero, suc, ◌+◌, ◌*◌, ◌-◌, ◌%◌, ◌<◌, ◌≤◌, List, inl, inr, sym, ap, ◌∙◌, arith}
use Rattle.std.proofs.lemmas.Bool.{cases_lt}
use Rattle.std.proofs.lemmas.Nat.{mod_below, div-add-mod'}
use Rattle.mt_linear.proofs.Abstract.{Ops, HasFieldLaws, sum_of, sum_null, sum_cong, mul_null}
use Rattle.mt_system.proofs.AbstractStrength.{Table, size_of, size_at, IsFree, HasSequenceStrength}
use Rattle.mt_poly.proofs.Action.{poly_power, Kills, act_combination}
use Rattle.mt_poly.proofs.Monic.{HasDegree, monic_one, monic_mul, monic_power, monic_zero}
use Rattle.mt_poly.proofs.Apart.{IsApart, apart_powers, product_of, product_kills_sum, direct}
use Rattle.mt_niederreiter.specs.Rows.{times_over}
use Rattle.mt_niederreiter.proofs.RowLemmas.{row, row_kill, row_free}

times_reach : (d e : ℕ) → 0 < e → d ≤ times_over d e * e
times_reach d e h =
    let k : (d + (e - 1)) % e < e = mod_below (d + (e - 1)) e h in
    omega (arith, div-add-mod' (d + (e - 1)) e)

times_most : (d e : ℕ) → times_over d e * e ≤ d + (e - 1)
times_most d e = omega (arith, div-add-mod' (d + (e - 1)) e)

size_most : (s : ℕ) (d e : ℕ → ℕ) → size_of s (λ i. times_over (d i) (e i) * e i) ≤ size_of s d + size_of s (λ i. e i - 1)
size_most zero d e = omega arith
size_most (suc s) d e = omega (arith, size_most s d e, times_most (d s) (e s))

module _ {K : Type 0} (F : Ops K) (L : HasFieldLaws F) where
  product_monic : (s : ℕ) (P : ℕ → List K) (n : ℕ → ℕ) → ((i : ℕ) → i < s → HasDegree F (P i) (n i)) → HasDegree F (product_of F s P) (size_of s n)
  product_monic zero P n h = monic_one F L
  product_monic (suc s) P n h =
      monic_mul F L (product_of F s P) (P s) (size_of s n) (n s) (product_monic s P n (λ i g. h i (omega arith))) (h s (omega arith))

  -- m first terms of m rows of each of s monic polynomials p i of degree e i, which are apart from one another
  module _ (R : Table K) (s m : ℕ) (p : ℕ → List K) (e : ℕ → ℕ)
      (degree : (i : ℕ) → i < s → HasDegree F (p i) (e i)) (positive : (i : ℕ) → i < s → 0 < e i)
      (apart : (i j : ℕ) → i < s → j < i → IsApart F (p j) (p i))
      (rows : (i j c : ℕ) → i < s → j < m → c < m → R i j c ≡ row F (p i) (e i) j c) where
    choice_free : (n : ℕ) → n ≤ m → (d : ℕ → ℕ) → ((i : ℕ) → i < s → d i ≤ m) → size_of s d + size_of s (λ i. e i - 1) ≤ n → IsFree F R s n d
    choice_free n le d deep size x z i j hi hj =
        row_free F L (p i) (e i) (degree i hi) (positive i hi) (d i) (x i) (direct F L s P w powers_apart killed total i hi) j hj
      where
        -- the combination of the rows of p i
        w : ℕ → ℕ → K
        w i l = sum_of F (d i) (λ j. F.mul (x i j) (row F (p i) (e i) j l))

        P : ℕ → List K
        P i = poly_power F (p i) (times_over (d i) (e i))

        powers_apart : (i j : ℕ) → i < s → j < i → IsApart F (P j) (P i)
        powers_apart i j h g = apart_powers F L (p j) (p i) (apart i j h g) (times_over (d j) (e j)) (times_over (d i) (e i))

        killed : (i : ℕ) → i < s → Kills F (P i) (w i)
        killed i h l =
            act_combination F L (P i) (d i) (x i) (row F (p i) (e i)) l
            ∙ sum_null F L (d i) _ (λ j g.
            ap (F.mul (x i j)) (row_kill F L (p i) (e i) (degree i h) (positive i h) (times_over (d i) (e i)) j (omega (arith, times_reach (d i) (e i) (positive i h))) l)
            ∙ mul_null F L (x i j))

        -- the first n terms of the sum are zero
        begins : (c : ℕ) → c < n → sum_of F s (λ i. w i c) ≡ F.null
        begins c h =
            sym (sum_cong F s _ _ (λ i g. sum_cong F (d i) _ _ (λ j k. ap (F.mul (x i j)) (rows i j c g (let q : d i ≤ m = deep i g in omega arith) (omega arith)))))
            ∙ z c h

        -- and a polynomial of degree at most n kills it
        total : (l : ℕ) → sum_of F s (λ i. w i l) ≡ F.null
        total =
            monic_zero F L (product_of F s P) (size_of s (λ i. times_over (d i) (e i) * e i))
            (product_monic s P (λ i. times_over (d i) (e i) * e i) (λ i h. monic_power F L (p i) (e i) (degree i h) (times_over (d i) (e i))))
            (λ l. sum_of F s (λ i. w i l))
            (product_kills_sum F L s P w killed)
            (λ c h. begins c (omega (arith, size_most s d e)))

    -- the quality parameter is the sum of the degrees less 1
    pub quality : HasSequenceStrength F R s m (m - size_of s (λ i. e i - 1))
    quality n le d deep size x z i j hi hj = elim (cases_lt n (size_of s d + size_of s (λ i. e i - 1))) [
      | inl k ↦ absurd (let q : d i ≤ size_of s d = size_at s d i hi in omega arith)
      | inr k ↦ choice_free n le d (λ i h. let q : d i ≤ n = deep i h in omega arith) k x z i j hi hj
    ]
