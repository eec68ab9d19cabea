-- Workers that are made one by one.
use Rattle.std.proofs.Common.{◌≡◌, zero, suc, ◌<◌, All, List, [], ◌∷◌, ◌++◌, map, length, get_or, sym, ap, ◌∙◌, subst, arith, append_assoc}
use Rattle.std.specs.List.{remove}
use Rattle.std.proofs.lemmas.List.{map-append}

module _ {X : Type 0} where
  pub first_off : (xs : List X) (x : X) → 0 < length xs → x ≡ get_or xs 0 x → x ∷ remove xs 0 ≡ xs
  first_off [] x h e = absurd (omega arith)
  first_off (y ∷ ys) x h e = ap (λ z. z ∷ ys) e

  -- what holds of each element holds of the first, and of the others
  pub of_first : (P : X → Type 0) (xs : List X) (x : X) → 0 < length xs → x ≡ get_or xs 0 x → All P xs → P x
  of_first P xs x h e a = subst P (sym e) (a 0 x h)

  pub of_rest : (P : X → Type 0) (xs : List X) → All P xs → All P (remove xs 0)
  of_rest P [] a k d l = a k d l
  of_rest P (y ∷ ys) a k d l = a (suc k) d (omega arith)

  pub of_more : (P : X → Type 0) (xs : List X) (x : X) → All P xs → P x → All P (xs ++ x ∷ [])
  of_more P [] x a p zero d l = p
  of_more P [] x a p (suc k) d l = absurd (omega arith)
  of_more P (y ∷ ys) x a p zero d l = a 0 d (omega arith)
  of_more P (y ∷ ys) x a p (suc k) d l = of_more P ys x (λ j e m. a (suc j) e (omega arith)) p k d (omega arith)

module _ {X Y : Type 0} (f : X → Y) where
  pub moved_over : (ws : List X) (w : X) (all rest : List Y) → f w ∷ rest ≡ all → map f (ws ++ w ∷ []) ++ rest ≡ map f ws ++ all
  moved_over ws w all rest e = ap (λ l. l ++ rest) (map-append f ws (w ∷ [])) ∙ (append_assoc (map f ws) (f w ∷ []) rest ∙ ap (λ l. map f ws ++ l) e)
