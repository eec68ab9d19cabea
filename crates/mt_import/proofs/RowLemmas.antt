-- The bytes of a line that are no blanks.
use Rattle.std.proofs.Common.{◌≡◌, ℕ, zero, suc, ◌<◌, cond, Bool, true, false, List, [], ◌∷◌, length, filter, get_or, All, subst, arith}
use Rattle.std.proofs.lemmas.List.Elements.{All-head, All-tail}

-- what holds of all that pass holds of one that passes
pub All-filter_at : (P : ℕ → Type 0) (p : ℕ → Bool) (xs : List ℕ) (i : ℕ) → All P (filter p xs) → i < length xs → p (get_or xs i 0) ≡ true → P (get_or xs i 0)
All-filter_at P p [] i h l pass = absurd (omega arith)
All-filter_at P p (x ∷ xs) zero h l pass = All-head P x (filter p xs) (subst (λ b. All P (cond b (x ∷ filter p xs) (filter p xs))) pass h)
All-filter_at P p (x ∷ xs) (suc i) h l pass =
    All-filter_at P p xs i
    (elim (p x) as (λ b. All P (cond b (x ∷ filter p xs) (filter p xs)) → All P (filter p xs)) [ true ↦ λ g. All-tail P x (filter p xs) g | false ↦ λ g. g ] h)
    (omega arith) pass
