-- What the operations on vectors of 32 bytes hold at each lane.
use Rattle.std.proofs.Common.{◌≡◌, ℕ, ◌+◌, ◌-◌, ◌%◌, ◌^◌, ◌<◌, List, [], ◌∷◌, ◌≢◌, suc, zero, not, eqb, one-add, Bool, true, false, cond, ltb, length, get_or, map, replicate, refl, sym, ap, ap₂, ◌∙◌, subst, arith, w8}
use Rattle.std.specs.Simd.Lanes.{zip2, sel_l, top, mask_l}
use Rattle.std.specs.List.{prefix_len}
use lib.Count.{count_trailing_zeros}
use Rattle.std.proofs.lemmas.Simd.{length-zip2, get_or-zip2, get_or-replicate, length-replicate, length-sel_l, get_or-sel_l, tops_compared, bitmask_splat, trailing_mask_l}
use Rattle.std.proofs.lemmas.Bool.{ne_eqb}
use Rattle.mt_strength.specs.Lanes.{HasLanes, lesser, fold}

pub HasLanes-self : (v : List ℕ) → length v ≡ 32 → HasLanes v (λ k. get_or v k 0)
HasLanes-self v l = record { long = l; each = λ k m. refl }

pub HasLanes-splat : (x : ℕ) → HasLanes (replicate 32 x) (λ k. x)
HasLanes-splat x = record { long = length-replicate 32 x; each = λ k m. get_or-replicate 32 k x 0 m }

pub HasLanes-zip2 : (h : ℕ → ℕ → ℕ) (a b : List ℕ) (f g : ℕ → ℕ) → HasLanes a f → HasLanes b g → HasLanes (zip2 h a b) (λ k. h (f k) (g k))
HasLanes-zip2 h a b f g p q =
    let pl = p.long in
    let ql = q.long in
    record {
      long = length-zip2 h a b (pl ∙ sym ql) ∙ pl;
      each = λ k l. get_or-zip2 h a b k 0 0 0 (omega arith) (omega arith) ∙ ap₂ h (p.each k l) (q.each k l);
    }

pub HasLanes-as : (a : List ℕ) (f g : ℕ → ℕ) → HasLanes a f → ((k : ℕ) → k < 32 → f k ≡ g k) → HasLanes a g
HasLanes-as a f g p e = record { long = p.long; each = λ k l. p.each k l ∙ e k l }

-- the lesser of two lanes
pub HasLanes-min : (a b : List ℕ) (f g : ℕ → ℕ) → HasLanes a f → HasLanes b g
    → HasLanes (sel_l (map (top 7) (zip2 (λ x y. cond (ltb x y) 255 0) a b)) a b) (λ k. lesser (f k) (g k))
HasLanes-min a b f g p q =
    let pl = p.long in
    let ql = q.long in
    let long : length (zip2 ltb a b) ≡ 32 = length-zip2 ltb a b (pl ∙ sym ql) ∙ pl in
    subst (λ ms. HasLanes (sel_l ms a b) (λ k. lesser (f k) (g k))) (sym (tops_compared w8 ltb a b)) (record {
      long = length-sel_l (zip2 ltb a b) a b (long ∙ sym pl) (long ∙ sym ql) ∙ long;
      each = λ k l.
          get_or-sel_l (zip2 ltb a b) a b k 0 (omega arith) (omega arith) (omega arith)
          ∙ (λ i. cond ((get_or-zip2 ltb a b k 0 0 false (omega arith) (omega arith) ∙ ap₂ ltb (p.each k l) (q.each k l)) i) (p.each k l i) (q.each k l i));
    })

pub HasLanes-fold : (p : ℕ) (a : List ℕ) (f : ℕ → ℕ) → HasLanes a f
    → HasLanes (sel_l (map (top 7) (zip2 (λ x y. cond (ltb x y) 255 0) a (zip2 (λ x y. (x + (256 - y)) % 256) a (replicate 32 p)))) a (zip2 (λ x y. (x + (256 - y)) % 256) a (replicate 32 p))) (λ k. fold p (f k))
HasLanes-fold p a f h = HasLanes-min a _ f (λ k. (f k + (256 - p)) % 256) h (HasLanes-zip2 (λ x y. (x + (256 - y)) % 256) a (replicate 32 p) f (λ k. p) h (HasLanes-splat p))

abbrev is_set : ℕ → Bool
is_set x = not (eqb x 0)

set_suc : (x : ℕ) → is_set (suc x) ≡ true
set_suc x = ap not (ne_eqb (suc x) 0 (λ e. absurd (omega arith)))

-- where some lane is not 0, the first such
first_set : (v : List ℕ) → 0 < mask_l (map is_set v) → (prefix_len (λ x. not (is_set x)) v < length v) × (get_or v (prefix_len (λ x. not (is_set x)) v) 0 ≢ 0)
first_set [] h = absurd (omega arith)
first_set (zero ∷ xs) h = let r = first_set xs (omega arith) in rw one-add (let l = r.0 in omega arith, r.1)
first_set (suc x ∷ xs) h = rw (set_suc x) (omega arith, λ e. absurd (omega arith))

none_set : (v : List ℕ) → mask_l (map is_set v) ≡ 0 → (k : ℕ) → get_or v k 0 ≡ 0
none_set [] h k = refl
none_set (zero ∷ xs) h zero = refl
none_set (zero ∷ xs) h (suc k) = none_set xs (omega arith) k
none_set (suc x ∷ xs) h k = let e : cond {A = ℕ} (is_set (suc x)) 1 0 ≡ 1 = ap (λ b. cond b 1 0) (set_suc x) in absurd (omega arith)

abbrev mask_of : List ℕ → ℕ
mask_of v = mask_l (map (top 7) (zip2 (λ a b. cond (not (eqb a b)) 255 0) v (replicate 32 0))) % 2 ^ 64

mask_is : (v : List ℕ) → length v ≡ 32 → mask_of v ≡ mask_l (map is_set v)
mask_is v l = bitmask_splat w8 (λ a b. not (eqb a b)) v 32 0 l (omega arith)

pub zeros_by_mask : (v : List ℕ) → length v ≡ 32 → mask_of v ≡ 0 → (k : ℕ) → get_or v k 0 ≡ 0
zeros_by_mask v l e = none_set v (sym (mask_is v l) ∙ e)

pub first_by_mask : (v : List ℕ) → length v ≡ 32 → mask_of v ≢ 0 → (count_trailing_zeros 64 (mask_of v) < 32) × (get_or v (count_trailing_zeros 64 (mask_of v)) 0 ≢ 0)
first_by_mask v l ne =
    let e = mask_is v l in
    let some : 0 < mask_l (map is_set v) = omega arith in
    let at : count_trailing_zeros 64 (mask_of v) ≡ prefix_len (λ x. not (is_set x)) v = ap (count_trailing_zeros 64) e ∙ trailing_mask_l is_set 64 v (omega arith) some in
    let f = first_set v some in
    rw at (let m = f.0 in omega arith, f.1)
