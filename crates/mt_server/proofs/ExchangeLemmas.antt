-- One exchange more, behind those of a connection so far.
use Rattle.std.proofs.Common.{◌≡◌, ℕ, ◌+◌, false, List, [], ◌∷◌, ◌++◌, length, inl, inr, refl, sym, ap, ◌∙◌, subst, arith, append_assoc, append-nil}
use Rattle.mt_http.specs.Items.{asked, Begins}
use Rattle.mt_server.specs.Replies.{response_text}
use Rattle.mt_server.specs.Connections.{Viewed, Exchange, IsAnswered, AreAnswered, AreRequests, AllStay, responses_text, keeper_fault, keeper_faults, Counted}
use Rattle.mt_server.specs.Turns.{Stay, is_last}

pub answers_more : (v u w : Viewed) (xs : List Exchange) (x : Exchange) → AreAnswered v xs u → IsAnswered u x.request x.response w
    → AreAnswered v (xs ++ x ∷ []) w
answers_more v u w [] x e h = (w, subst (λ (z : Viewed). IsAnswered z x.request x.response w) e h, refl)
answers_more v u w (y ∷ ys) x e h = (e.0, e.1, answers_more e.0 u w ys x e.2 h)

pub requests_more : (stream mid rest : List ℕ) (xs : List Exchange) (x : Exchange) → AreRequests stream xs mid → Begins mid (asked x.request rest)
    → AreRequests stream (xs ++ x ∷ []) rest
requests_more stream mid rest [] x e h = (rest, subst (λ (z : List ℕ). Begins z (asked x.request rest)) e h, refl)
requests_more stream mid rest (y ∷ ys) x e h = (e.0, e.1, requests_more e.0 mid rest ys x e.2 h)

pub responses_more : (n m : ℕ) (xs : List Exchange) (x : Exchange) → n + length xs ≡ m
    → responses_text n (xs ++ x ∷ []) ≡ responses_text n xs ++ response_text x.response (is_last m x)
responses_more n m [] x e =
    let same : n ≡ m = omega (arith, e) in
    append-nil (response_text x.response (is_last n x)) ∙ ap (λ (k : ℕ). response_text x.response (is_last k x)) same
responses_more n m (y ∷ ys) x e =
    let same : (n + 1) + length ys ≡ m = omega (arith, e) in
    ap (λ (t : List ℕ). response_text y.response (is_last n y) ++ t) (responses_more (n + 1) m ys x same)
    ∙ sym (append_assoc (response_text y.response (is_last n y)) (responses_text (n + 1) ys) (response_text x.response (is_last m x)))

pub stay_more : (xs : List Exchange) (x : Exchange) → Stay xs → x.request.close ≡ false → Stay (xs ++ x ∷ [])
stay_more [] x h e = (e, tt)
stay_more (y ∷ ys) x h e = (h.0, stay_more ys x h.1 e)

stays_at : (earlier later : List Exchange) (x : Exchange) → Stay (earlier ++ x ∷ later) → x.request.close ≡ false
stays_at [] later x h = h.0
stays_at (y ∷ ys) later x h = stays_at ys later x h.1

pub all_stay : (xs : List Exchange) → Stay xs → AllStay xs
all_stay xs h earlier later x e = stays_at earlier later x (subst Stay e h)

pub counted_more : (n m a b c : ℕ) → Counted n a b → Counted m b c → Counted (n + m) a c
counted_more n m a b c (inl h) (inl k) = inl (omega (arith, h, k))
counted_more n m a b c (inr h) (inl k) = inr (omega (arith, h, k))
counted_more n m a b c h (inr k) = inr k

faults_sum : (xs : List Exchange) (x : Exchange) → keeper_faults (xs ++ x ∷ []) ≡ keeper_faults xs + keeper_fault x.response
faults_sum [] x = omega arith
faults_sum (y ∷ ys) x = let e = faults_sum ys x in omega (arith, e)

pub faults_more : (xs : List Exchange) (x : Exchange) (a b c : ℕ) → Counted (keeper_faults xs) a b → Counted (keeper_fault x.response) b c
    → Counted (keeper_faults (xs ++ x ∷ [])) a c
faults_more xs x a b c h k =
    subst (λ (n : ℕ). Counted n a c) (sym (faults_sum xs x)) (counted_more (keeper_faults xs) (keeper_fault x.response) a b c h k)
