-- The list of what passes a test.
use Rattle.std.proofs.Common.{ℕ, zero, suc, ◌≡◌, ◌+◌, ◌-◌, ◌≤◌, ◌<◌, ◌≢◌, refl, arith, ◌∙◌, ⊎_elim, Bool, true, false, List, [], ◌∷◌, length}
use Rattle.std.specs.Prelude.{All, AllPairs, Contains}
use Rattle.std.proofs.lemmas.Bool.{cases_eq, cases_Bool}
use Rattle.std.proofs.lemmas.List.Elements.{All-nil, All-cons}
use Rattle.std.proofs.lemmas.List.Kept.{AllPairs-cons}
use Rattle.mt_cells.specs.Listed.{picked}

module _ {A : Type 0} (p : ℕ → Bool) (f : ℕ → A) where
  pub picked_here : (n start : ℕ) → p start ≡ true → picked p f (suc n) start ≡ f start ∷ picked p f n (start + 1)
  unfolding picked
  picked_here n start h = rw h refl

  pub picked_next : (n start : ℕ) → p start ≡ false → picked p f (suc n) start ≡ picked p f n (start + 1)
  unfolding picked
  picked_next n start h = rw h refl

  -- numbers that do not pass may be skipped
  pub picked_skip : (k n start : ℕ) → ((j : ℕ) → start ≤ j → j < start + k → p j ≡ false) → picked p f (k + n) start ≡ picked p f n (start + k)
  picked_skip zero n start h =
      let e : 0 + n ≡ n = omega arith in
      let e' : start + 0 ≡ start = omega arith in
      rw (e, e') refl
  picked_skip (suc k) n start h =
      let e : suc k + n ≡ suc (k + n) = omega arith in
      let e' : start + suc k ≡ start + 1 + k = omega arith in
      rw (e, e') (picked_next (k + n) start (h start (omega arith) (omega arith)) ∙ picked_skip k n (start + 1) (λ j l m. h j (omega arith) (omega arith)))

  pub picked_none : (n start : ℕ) → ((j : ℕ) → start ≤ j → p j ≡ false) → picked p f n start ≡ []
  unfolding picked
  picked_none zero start h = refl
  picked_none (suc n) start h = picked_next n start (h start (omega arith)) ∙ picked_none n (start + 1) (λ j l. h j (omega arith))

  pub picked_all : (P : A → Type 0) (n start : ℕ) → ((j : ℕ) → start ≤ j → p j ≡ true → P (f j)) → All P (picked p f n start)
  unfolding picked
  picked_all P zero start h = All-nil P
  picked_all P (suc n) start h =
      let rest : All P (picked p f n (start + 1)) = picked_all P n (start + 1) (λ j l e. h j (omega arith) e) in
      ⊎_elim
      (λ (e : p start ≡ true). rw (picked_here n start e) (All-cons P (f start) (picked p f n (start + 1)) (h start (omega arith) e) rest))
      (λ (e : p start ≡ false). rw (picked_next n start e) rest)
      (cases_Bool (p start))

  contains_later : (x y : A) (xs : List A) → Contains xs y → Contains (x ∷ xs) y
  contains_later x y xs (k, l, e) = (suc k, omega arith, e)

  pub picked_each : (n start j : ℕ) → start ≤ j → j < start + n → p j ≡ true → Contains (picked p f n start) (f j)
  picked_each zero start j l m e = absurd (omega arith)
  picked_each (suc n) start j l m e = ⊎_elim
      (λ (q : j ≡ start). rw q (rw (picked_here n start (rw q at e)) (0, omega arith, refl)))
      (λ (q : j ≢ start).
      let rest : Contains (picked p f n (start + 1)) (f j) = picked_each n (start + 1) j (omega arith) (omega arith) e in
      ⊎_elim
      (λ (t : p start ≡ true). rw (picked_here n start t) (contains_later (f start) (f j) (picked p f n (start + 1)) rest))
      (λ (t : p start ≡ false). rw (picked_next n start t) rest)
      (cases_Bool (p start)))
      (cases_eq j start)

  pub picked_once : (n start : ℕ) → ((i j : ℕ) → i < j → p i ≡ true → p j ≡ true → f i ≢ f j) → AllPairs (λ x y. x ≢ y) (picked p f n start)
  unfolding picked
  picked_once zero start h = λ i j d l m. absurd (omega arith)
  picked_once (suc n) start h = ⊎_elim
      (λ (e : p start ≡ true). rw (picked_here n start e) (AllPairs-cons (λ x y. x ≢ y) (f start) (picked p f n (start + 1)) (picked_all (λ x. f start ≢ x) n (start + 1) (λ j l t. h start j (omega arith) e t)) (picked_once n (start + 1) h)))
      (λ (e : p start ≡ false). rw (picked_next n start e) (picked_once n (start + 1) h))
      (cases_Bool (p start))

  -- a number that falls from each to the next bounds how many there are
  pub picked_few : (fall : ℕ → ℕ) (n start top : ℕ) → ((i j : ℕ) → i < j → p i ≡ true → p j ≡ true → fall j < fall i) → ((j : ℕ) → start ≤ j → p j ≡ true → (1 ≤ fall j) × (fall j ≤ top)) → length (picked p f n start) ≤ top
  unfolding picked
  picked_few fall zero start top h k = omega arith
  picked_few fall (suc n) start top h k = ⊎_elim
      (λ (e : p start ≡ true). rw (picked_here n start e)
      (let low = k start (omega arith) e in
      let rest : length (picked p f n (start + 1)) ≤ fall start - 1 = picked_few fall n (start + 1) (fall start - 1) h (λ j l t. let a : fall j < fall start = h start j (omega arith) e t in let a' = k j (omega arith) t in (a'.0, omega arith)) in
      omega arith))
      (λ (e : p start ≡ false). rw (picked_next n start e) (picked_few fall n (start + 1) top h (λ j l t. k j (omega arith) t)))
      (cases_Bool (p start))
