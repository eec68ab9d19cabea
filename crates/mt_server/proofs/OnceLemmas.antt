-- Lists of which each event may follow those before it: each name is imported once, and each import withdrawn once.
use Rattle.std.proofs.Common.{◌≡◌, ◌≢◌, ℕ, zero, suc, ◌+◌, ◌≤◌, ◌||◌, ◌⊎◌, Bool, true, false, not, List, [], ◌∷◌, ◌++◌, length, take, inl, inr, refl, sym, ap, ◌∙◌, subst, arith, true≢false, eq-eqb, take_all}
use Rattle.std.specs.List.{list_any}
use Rattle.mt_system.specs.Statements.{Statement}
use Rattle.mt_cells.specs.declared.bounds.Bounds.{Bounds}
use Rattle.mt_derive.specs.declared.events.Event.{Event}
use Rattle.mt_derive.specs.declared.events.Event.TheVariants.{Import, Withdraw}
use Rattle.mt_derive.specs.Events.{imports_of, withdraws, Follows, AllFollow}
use Rattle.mt_derive.specs.Imports.{LacksName}
use Rattle.mt_derive.specs.Places.{IsAt}
use Rattle.mt_derive.proofs.PlaceLemmas.{place_some, place_push}
use Rattle.mt_derive.proofs.EventLemmas.{imports_append, imports_withdraw, take_event}
use Rattle.mt_server.specs.Interleavings.{ImportsOnce, WithdrawsOnce}

-- a claim of a list that lacks the name has another
lacks_at : (L : List Statement) (name : List ℕ) (p : ℕ) (c : Statement) → LacksName L name → IsAt L p c → c.name ≢ name
lacks_at [] name p c lacks at = absurd at
lacks_at (d ∷ L) name zero c lacks at = subst (λ (x : Statement). x.name ≢ name) at (lacks 0 d (omega arith))
lacks_at (d ∷ L) name (suc p) c lacks at = lacks_at L name p c (λ k e l. lacks (suc k) e (omega arith)) at

-- one import more, whose name is new
names_push : (L : List Statement) (c : Statement) → ((m n : ℕ) (d e : Statement) → IsAt L m d → IsAt L n e → d.name ≡ e.name → m ≡ n) → LacksName L c.name
    → (m n : ℕ) (d e : Statement) → IsAt (L ++ c ∷ []) m d → IsAt (L ++ c ∷ []) n e → d.name ≡ e.name → m ≡ n
names_push L c once lacks m n d e at at' same = go (place_push L c m d at) (place_push L c n e at')
  where
    go : IsAt L m d ⊎ ((m ≡ length L) × (c ≡ d)) → IsAt L n e ⊎ ((n ≡ length L) × (c ≡ e)) → m ≡ n
    go (inl k) (inl k') = once m n d e k k' same
    go (inl k) (inr k') = absurd (lacks_at L c.name m d lacks k (same ∙ ap (λ (x : Statement). x.name) (sym k'.1)))
    go (inr k) (inl k') = absurd (lacks_at L c.name n e lacks k' (sym same ∙ ap (λ (x : Statement). x.name) (sym k.1)))
    go (inr k) (inr k') = k.0 ∙ sym k'.0

-- an import that an event withdraws is not live
withdrawn_any : (E : List Event) (m i : ℕ) → IsAt E m (Withdraw i) → list_any (withdraws i) E ≡ true
withdrawn_any [] m i at = absurd at
withdrawn_any (e ∷ E) zero i at = rw at (rw (eq-eqb i i refl) refl)
withdrawn_any (e ∷ E) (suc m) i at = rw (withdrawn_any E m i at) (or_true (withdraws i e))
  where
    or_true : (t : Bool) → (t || true) ≡ true
    or_true true = refl
    or_true false = refl

withdraws_push : (b : Bounds) (E : List Event) (e : Event) → WithdrawsOnce E → Follows b E e → WithdrawsOnce (E ++ e ∷ [])
withdraws_push b E e once follows m n i at at' = go (place_push E e m (Withdraw i) at) (place_push E e n (Withdraw i) at')
  where
    not_again : (p : ℕ) → IsAt E p (Withdraw i) → Follows b E (Withdraw i) → ⊥
    not_again p k live = true≢false (sym live.2 ∙ ap not (withdrawn_any E p i k))

    go : IsAt E m (Withdraw i) ⊎ ((m ≡ length E) × (e ≡ Withdraw i)) → IsAt E n (Withdraw i) ⊎ ((n ≡ length E) × (e ≡ Withdraw i)) → m ≡ n
    go (inl k) (inl k') = once m n i k k'
    go (inl k) (inr k') = absurd (not_again m k (subst (Follows b E) k'.1 follows))
    go (inr k) (inl k') = absurd (not_again n k' (subst (Follows b E) k.1 follows))
    go (inr k) (inr k') = k.0 ∙ sym k'.0

imports_push : (b : Bounds) (E : List Event) (e : Event) → ImportsOnce E → Follows b E e → ImportsOnce (E ++ e ∷ [])
imports_push b E (Import c) once follows = rw (imports_append E (Import c ∷ [])) (names_push (imports_of E) c once follows.2)
imports_push b E (Withdraw n) once follows = rw (imports_withdraw E n) once

once_upto : (b : Bounds) (E : List Event) → AllFollow b E → (n : ℕ) → n ≤ length E → ImportsOnce (take n E) × WithdrawsOnce (take n E)
once_upto b E all zero h = ((λ m n c d at. absurd at), (λ m n i at. absurd at))
once_upto b E all (suc n) h =
    let at = place_some E n (omega arith) in
    let before = once_upto b E all n (omega arith) in
    let follows = all n at.0 at.1 in
    let more : suc n ≡ n + 1 = omega arith in
    rw (more, take_event E n at.0 at.1) (imports_push b (take n E) at.0 before.0 follows, withdraws_push b (take n E) at.0 before.1 follows)

pub all_once : (b : Bounds) (E : List Event) → AllFollow b E → ImportsOnce E × WithdrawsOnce E
all_once b E all = subst (λ (F : List Event). ImportsOnce F × WithdrawsOnce F) (take_all (length E) E (omega arith)) (once_upto b E all (length E) (omega arith))
