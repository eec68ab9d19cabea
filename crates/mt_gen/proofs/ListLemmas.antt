-- Lists of generated claims.
use Rattle.std.proofs.Common.{◌≡◌, ◌≢◌, ℕ, ◌+◌, ◌^◌, ◌<◌, ◌≤◌, List, [], ◌∷◌, ◌++◌, length, All, AllPairs, refl, sym, ◌∙◌, subst, arith}
use Rattle.std.proofs.lemmas.List.Elements.{All-cons, All-nil, All-weaker}
use Rattle.std.proofs.lemmas.List.Kept.{AllPairs-cons}
use Rattle.mt_system.specs.Statements.{Statement}
use Rattle.mt_cells.specs.declared.bounds.Bounds.{Bounds}
use Rattle.mt_gen.specs.Generated.{state_after, name_of, words_of, IsGenerated, AreGenerated}
use Rattle.mt_gen.proofs.NameLemmas.{name_of-injective}

-- the state behind the claims
abbrev pub end_of : ℕ → List Statement → ℕ
end_of x [] = x
end_of x (c ∷ cs) = end_of (state_after x (words_of c.system)) cs

pub end_of-push : (x : ℕ) (cs : List Statement) (c : Statement) → end_of x (cs ++ c ∷ []) ≡ state_after (end_of x cs) (words_of c.system)
end_of-push x [] c = refl
end_of-push x (d ∷ cs) c = end_of-push (state_after x (words_of d.system)) cs c

pub AreGenerated-push : (seed : ℕ) (b : Bounds) (number x : ℕ) (cs : List Statement) (c : Statement) → AreGenerated seed b number x cs
    → IsGenerated seed b (number + length cs) (end_of x cs) c → AreGenerated seed b number x (cs ++ c ∷ [])
AreGenerated-push seed b number x [] c are is =
    let e : number + 0 ≡ number = omega arith in
    (subst (λ n. IsGenerated seed b n x c) e is, tt)
AreGenerated-push seed b number x (d ∷ cs) c are is =
    let e : number + length (d ∷ cs) ≡ number + 1 + length cs = omega arith in (
      are.0,
      AreGenerated-push seed b (number + 1) (state_after x (words_of d.system)) cs c are.1
          (subst (λ n. IsGenerated seed b n (end_of (state_after x (words_of d.system)) cs) c) e is),
    )

-- what each generated claim has
pub each_has : (P : Statement → Type 0) (seed : ℕ) (b : Bounds) → ((number x : ℕ) (c : Statement) → IsGenerated seed b number x c → P c)
    → (number x : ℕ) (cs : List Statement) → AreGenerated seed b number x cs → All P cs
each_has P seed b h number x [] are = All-nil P
each_has P seed b h number x (c ∷ cs) are =
    All-cons P c cs (h number x c are.0) (each_has P seed b h (number + 1) (state_after x (words_of c.system)) cs are.1)

named_from : (seed : ℕ) (b : Bounds) (number x : ℕ) (cs : List Statement) → AreGenerated seed b number x cs
    → All (λ c. (n : ℕ) × (number ≤ n) × (n < number + length cs) × (c.name ≡ name_of seed n)) cs
named_from seed b number x [] are = All-nil (λ c. (n : ℕ) × (number ≤ n) × (n < number + length {A = Statement} []) × (c.name ≡ name_of seed n))
named_from seed b number x (c ∷ cs) are =
    let P : Statement → Type 0 = λ d. (n : ℕ) × (number ≤ n) × (n < number + length (c ∷ cs)) × (d.name ≡ name_of seed n) in
    let Q : Statement → Type 0 = λ d. (n : ℕ) × (number + 1 ≤ n) × (n < number + 1 + length cs) × (d.name ≡ name_of seed n) in
    All-cons P c cs (number, omega arith, omega arith, are.0.name)
    (All-weaker Q P (λ d q. (q.0, omega (arith, q.1), omega (arith, q.2), q.3)) cs
    (named_from seed b (number + 1) (state_after x (words_of c.system)) cs are.1))

pub names_differ : (seed : ℕ) (b : Bounds) (number x : ℕ) (cs : List Statement) → number + length cs ≤ 2 ^ 32 → AreGenerated seed b number x cs
    → AllPairs (λ c d. c.name ≢ d.name) cs
names_differ seed b number x [] few are = λ i j d l h. absurd (omega (arith, h))
names_differ seed b number x (c ∷ cs) few are =
    let R : Statement → Statement → Type 0 = λ d e. d.name ≢ e.name in
    let Q : Statement → Type 0 = λ d. (n : ℕ) × (number + 1 ≤ n) × (n < number + 1 + length cs) × (d.name ≡ name_of seed n) in
    let rest = state_after x (words_of c.system) in
    let all : number + length (c ∷ cs) ≤ 2 ^ 32 = few in
    AllPairs-cons R c cs
    (All-weaker Q (R c) (λ d q e.
    let same : number ≡ q.0 = name_of-injective seed number q.0 (omega arith) (omega (arith, q.2)) (sym are.0.name ∙ e ∙ q.3) in
    absurd (omega (arith, same, q.1))) cs (named_from seed b (number + 1) rest cs are.1))
    (names_differ seed b (number + 1) rest cs (omega arith) are.1)
