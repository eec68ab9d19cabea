-- A parent's digits in other sizes are the digits of the rules that drop or add.
use Rattle.std.proofs.Common.{◌≡◌, ℕ, suc, ◌-◌, ◌<◌, ◌≤◌, cond, ltb, ap, ◌∙◌, arith}
use Rattle.std.proofs.lemmas.Bool.{cond-true, lt-ltb}
use Rattle.mt_system.specs.Rows.{Matrices}
use Rattle.mt_system.specs.Digits.{digit_of, padded, HasDigits}
use Rattle.mt_system.proofs.Makes.{with_digits}
use Rattle.mt_rules_basic.specs.Rules.{IsFewer, IsShallower, IsDeeper, IsLonger, IsCut}

-- within its sizes the digits are the parent's
padded_within : (a : Matrices) (i j c : ℕ) → i < a.coordinates → j < a.depth → c < a.columns → padded a i j c ≡ digit_of a i j c
padded_within a i j c hi hj hc =
    cond-true _ _ _ (lt-ltb i a.coordinates hi) ∙ cond-true _ _ _ (lt-ltb j a.depth hj) ∙ cond-true _ _ _ (lt-ltb c a.columns hc)

module _ (a b : Matrices) (m s d : ℕ) where
  -- a part of the parent
  part : (n r e : ℕ) → m ≡ n → s ≡ r → d ≡ e → n ≤ a.columns → r ≤ a.coordinates → e ≤ a.depth
      → HasDigits b a.order m s d (padded a) → HasDigits b a.order n r e (digit_of a)
  part n r e columns coordinates depth hn hr he =
      with_digits b a.order m s d n r e (padded a) (digit_of a) columns coordinates depth
      (λ i j c hi hj hc. padded_within a i j c (omega arith) (omega arith) (omega arith))

  pub fewer_from_padded : m ≡ a.columns → s ≡ a.coordinates - 1 → d ≡ a.depth → HasDigits b a.order m s d (padded a) → IsFewer a b
  fewer_from_padded columns coordinates depth = part _ _ _ columns coordinates depth (omega arith) (omega arith) (omega arith)

  pub shallower_from_padded : m ≡ a.columns → s ≡ a.coordinates → d ≡ a.depth - 1 → HasDigits b a.order m s d (padded a) → IsShallower a b
  shallower_from_padded columns coordinates depth = part _ _ _ columns coordinates depth (omega arith) (omega arith) (omega arith)

  pub cut_from_padded : m ≡ a.columns - 1 → s ≡ a.coordinates → d ≡ a.depth - 1 → HasDigits b a.order m s d (padded a) → IsCut a b
  cut_from_padded columns coordinates depth = part _ _ _ columns coordinates depth (omega arith) (omega arith) (omega arith)

  pub deeper_from_padded : m ≡ a.columns → s ≡ a.coordinates → d ≡ suc a.depth → HasDigits b a.order m s d (padded a) → IsDeeper a b
  deeper_from_padded columns coordinates depth =
      with_digits b a.order m s d _ _ _ (padded a) _ columns coordinates depth
      (λ i j c hi hj hc. cond-true _ _ _ (lt-ltb i a.coordinates hi)
      ∙ ap (λ x. cond (ltb j a.depth) x 0) (cond-true _ _ _ (lt-ltb c a.columns hc)))

  pub longer_from_padded : m ≡ suc a.columns → s ≡ a.coordinates → d ≡ a.depth → HasDigits b a.order m s d (padded a) → IsLonger a b
  longer_from_padded columns coordinates depth =
      with_digits b a.order m s d _ _ _ (padded a) _ columns coordinates depth
      (λ i j c hi hj hc. cond-true _ _ _ (lt-ltb i a.coordinates hi) ∙ cond-true _ _ _ (lt-ltb j a.depth hj))
