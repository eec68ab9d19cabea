-- Words and states of the stream, from different places on, and lists of digits.
use Rattle.std.proofs.Common.{◌≡◌, ℕ, zero, suc, ◌+◌, ◌<◌, List, [], ◌∷◌, ◌++◌, length, inl, inr, refl, sym, ap, ◌∙◌, subst, arith}
use Rattle.std.proofs.lemmas.Bool.{cases_eq, cases_lt}
use Rattle.std.proofs.lemmas.List.{get_or_append_left, get_or_past, get_or_push, length_push}
use Rattle.mt_linear.specs.declared.order.Order.{Order}
use Rattle.mt_linear.specs.Field.{number_of}
use Rattle.mt_linear.specs.Linear.{AllElements}
use Rattle.mt_linear.proofs.FieldLaws.{number_pos}
use Rattle.rand_xoshiro.specs.SplitMix64.{mix_u64, next_state}
use Rattle.mt_gen.specs.Generated.{state_after, word_at}

-- the first word and the state behind it
pub first_word : (x w y : ℕ) → (w, y) ≡ mix_u64 x → w ≡ word_at x 0
unfolding word_at state_after
first_word x w y e = ap (λ (p : ℕ × ℕ). p.0) e

pub first_state : (x w y : ℕ) → (w, y) ≡ mix_u64 x → y ≡ state_after x 1
unfolding state_after
first_state x w y e = ap (λ (p : ℕ × ℕ). p.1) e

pub state_after-none : (x : ℕ) → state_after x 0 ≡ x
unfolding state_after
state_after-none x = refl

state_after-suc : (x n : ℕ) → state_after x (suc n) ≡ next_state (state_after x n)
unfolding state_after
state_after-suc x n = refl

-- the words behind a others
pub state_after-more : (x a b : ℕ) → state_after (state_after x a) b ≡ state_after x (a + b)
state_after-more x a zero = state_after-none (state_after x a) ∙ ap (state_after x) (omega arith)
state_after-more x a (suc b) =
    let here : a + suc b ≡ suc (a + b) = omega arith in
    state_after-suc (state_after x a) b ∙ ap next_state (state_after-more x a b)
    ∙ sym (state_after-suc x (a + b)) ∙ ap (state_after x) (sym here)

pub word_at-more : (x a n : ℕ) → word_at (state_after x a) n ≡ word_at x (a + n)
unfolding word_at
word_at-more x a n = ap (λ y. (mix_u64 y).0) (state_after-more x a n)

pub push_elements : (o : Order) (xs : List ℕ) (y : ℕ) → AllElements o xs → y < number_of o → AllElements o (xs ++ y ∷ [])
push_elements o xs y h l k = elim (cases_lt k (length xs)) [
  | inl q ↦ subst (λ z. z < number_of o) (sym (get_or_append_left xs (y ∷ []) 0 k q)) (h k)
  | inr q ↦ elim (cases_eq (length xs) k) [
    | inl e ↦ subst (λ z. z < number_of o) (sym (get_or_push xs y 0 k e)) l
    | inr ne ↦ subst (λ z. z < number_of o) (sym (get_or_past (xs ++ y ∷ []) k 0 (omega (arith, length_push xs y)))) (number_pos o)
  ]
]
