-- Relations of what is told, one after another.
use Rattle.std.proofs.Common.{◌≡◌, ℕ, List, ◌++◌, take, ap, ◌∙◌, append_assoc, Option, None, Some}
use Rattle.mt_io.specs.Streams.{AppendsPrefix}
use Rattle.mt_io.specs.Told.{WhereTold}

pub told_map : {A : Type 0} (x y : Option A) (R S : A → A → Type 0) → ((u v : A) → R u v → S u v) → WhereTold x y R → WhereTold x y S
told_map None None R S f h = tt
told_map None (Some v) R S f h = h
told_map (Some u) None R S f h = tt
told_map (Some u) (Some v) R S f h = f u v h

pub told_both : {A : Type 0} (x y : Option A) (R S T : A → A → Type 0) → ((u v : A) → R u v → S u v → T u v)
    → WhereTold x y R → WhereTold x y S → WhereTold x y T
told_both None None R S T f h k = tt
told_both None (Some v) R S T f h k = h
told_both (Some u) None R S T f h k = tt
told_both (Some u) (Some v) R S T f h k = f u v h k

pub told_then : {A : Type 0} (x y z : Option A) (R S T : A → A → Type 0) → ((u v w : A) → R u v → S v w → T u w)
    → WhereTold x y R → WhereTold y z S → WhereTold x z T
told_then None None None R S T f h k = tt
told_then None None (Some w) R S T f h k = k
told_then None (Some v) z R S T f h k = absurd h
told_then (Some u) None None R S T f h k = tt
told_then (Some u) None (Some w) R S T f h k = absurd k
told_then (Some u) (Some v) None R S T f h k = tt
told_then (Some u) (Some v) (Some w) R S T f h k = f u v w h k

-- a text behind another one
pub told_text : (x y z : Option (List ℕ)) (a b : List ℕ) → WhereTold x y (λ old new. new ≡ old ++ a) → WhereTold y z (λ old new. new ≡ old ++ b)
    → WhereTold x z (λ old new. new ≡ old ++ (a ++ b))
told_text x y z a b =
    told_then x y z (λ old new. new ≡ old ++ a) (λ old new. new ≡ old ++ b) (λ old new. new ≡ old ++ (a ++ b))
    (λ u v w h k. k ∙ ap (λ (l : List ℕ). l ++ b) h ∙ append_assoc u a b)

-- nothing behind it
pub told_same : (x y z : Option (List ℕ)) (a : List ℕ) → WhereTold x y (λ old new. new ≡ old ++ a) → WhereTold y z (λ old new. new ≡ old)
    → WhereTold x z (λ old new. new ≡ old ++ a)
told_same x y z a =
    told_then x y z (λ old new. new ≡ old ++ a) (λ old new. new ≡ old) (λ old new. new ≡ old ++ a)
    (λ u v w h k. k ∙ h)

-- a part of a text behind another one
pub told_part : (x y z : Option (List ℕ)) (a b : List ℕ) → WhereTold x y (λ old new. new ≡ old ++ a) → WhereTold y z (λ old new. AppendsPrefix old new b)
    → (k : ℕ) × WhereTold x z (λ old new. new ≡ old ++ (a ++ take k b))
told_part None None None a b h k = (0, tt)
told_part None None (Some w) a b h k = absurd k
told_part None (Some v) z a b h k = absurd h
told_part (Some u) None None a b h k = (0, tt)
told_part (Some u) None (Some w) a b h k = absurd k
told_part (Some u) (Some v) None a b h k = (0, tt)
told_part (Some u) (Some v) (Some w) a b h k =
    (k.0, k.2 ∙ ap (λ (l : List ℕ). l ++ take k.0 b) h ∙ append_assoc u a (take k.0 b))
