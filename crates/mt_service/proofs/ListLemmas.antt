-- Lists of numbers in texts.
use Rattle.std.proofs.Common.{◌≡◌, ℕ, List, [], ◌∷◌, ◌++◌, ap, sym, append-nil, decimal, flat_map}
use Rattle.mt_service.specs.Texts.{comma_list}

-- the numbers behind the first have a comma before each
pub comma_list-cons : (n : ℕ) (ns : List ℕ) → comma_list (n ∷ ns) ≡ decimal n ++ flat_map (λ k. 44 ∷ decimal k) ns
comma_list-cons n [] = sym (append-nil (decimal n))
comma_list-cons n (k ∷ ns) = ap (λ (xs : List ℕ). decimal n ++ 44 ∷ xs) (comma_list-cons k ns)
