-- Searches for a dependent choice, in the order of the lists of sizes: the two ways at a coordinate, and the whole.
use Rattle.std.proofs.Common.{◌≡◌, inl, inr, ◌⊎◌, ℕ, zero, suc, ◌+◌, ◌<◌, ◌≤◌, List, [], ◌∷◌, ◌++◌, sum, min, replicate, refl, ap, arith}
use Rattle.std.proofs.lemmas.List.{length-replicate}
use Rattle.mt_linear.specs.declared.order.Order.{Order}
use Rattle.mt_linear.specs.Linear.{Independent}
use Rattle.mt_system.specs.Choices.{AllAtMost, IsChoice, LexBefore}
use Rattle.mt_system.specs.Rows.{rows_by, first_rows}
use Rattle.mt_system.proofs.ChoiceOrder.{sum-cons}
use Rattle.mt_strength.specs.Searches.{IsTaken, AllIndependent, IsFound, IsFirstByList}
use Rattle.mt_strength.specs.Verdicts.{EarlierIndependent}
use Rattle.mt_strength.proofs.RowLemmas.{sum_zeros, lex_none, AllAtMost-zeros}

-- all rows but the first coordinate's first
abbrev pub others_of : (ℕ → ℕ → List ℕ) → ℕ → ℕ → List ℕ
others_of M zero j = M 0 (suc j)
others_of M (suc i) j = M (suc i) j

first_rows-suc : (R : ℕ → List ℕ) (n : ℕ) → first_rows R (suc n) ≡ R 0 ∷ first_rows (λ j. R (suc j)) n
first_rows-suc R zero = refl
first_rows-suc R (suc n) = ap (λ (xs : List (List ℕ)). xs ++ R (suc n) ∷ []) (first_rows-suc R n)

pub rows_first : (M : ℕ → ℕ → List ℕ) (c : ℕ) (cs : List ℕ) → rows_by M (suc c ∷ cs) ≡ M 0 0 ∷ rows_by (others_of M) (c ∷ cs)
rows_first M c cs = ap (λ (xs : List (List ℕ)). xs ++ rows_by (λ i. M (suc i)) cs) (first_rows-suc (M 0) c)

-- one row more of the first coordinate
abbrev pub raised : List ℕ → List ℕ
raised [] = []
raised (c ∷ cs) = suc c ∷ cs

-- each of these choices without a row of the first coordinate is independent
abbrev pub WithoutFirst : Order → (List ℕ → List (List ℕ)) → ℕ → ℕ → ℕ → ℕ → Type 0
WithoutFirst o R first others each n = (cs : List ℕ) → IsTaken first others each n 0 cs → Independent o (R (0 ∷ cs))

-- where there is no other coordinate, it is the choice of no row
pub WithoutFirst-single : (o : Order) (R : List ℕ → List (List ℕ)) (first each n : ℕ) → Independent o (R (0 ∷ [])) → WithoutFirst o R first 0 each n
WithoutFirst-single o R first each n independent [] t = independent
WithoutFirst-single o R first each n independent (c ∷ cs) t = absurd (omega (arith, t.coordinates))

IsTaken-behind : (first others each n d : ℕ) (ds : List ℕ) → IsTaken first (suc others) each n 0 (d ∷ ds) → IsTaken each others each n d ds
IsTaken-behind first others each n d ds t =
    let at_most = t.at_most in
    record {
      of_first = at_most.0;
      coordinates = omega (arith, t.coordinates);
      at_most = at_most.1;
      size = omega (arith, t.size, sum-cons d ds);
    }

-- else the choices of the others
pub WithoutFirst-behind : (o : Order) (R : List ℕ → List (List ℕ)) (first others each n : ℕ) → AllIndependent o (λ ds. R (0 ∷ ds)) each others each n
    → WithoutFirst o R first (suc others) each n
WithoutFirst-behind o R first others each n all [] t = absurd (omega (arith, t.coordinates))
WithoutFirst-behind o R first others each n all (d ∷ ds) t = all d ds (IsTaken-behind first others each n d ds t)

-- no row of the first coordinate can be taken
pub AllIndependent-none : (o : Order) (R : List ℕ → List (List ℕ)) (first others each n : ℕ) → (first ≡ 0) ⊎ (n ≡ 0)
    → WithoutFirst o R first others each n → AllIndependent o R first others each n
AllIndependent-none o R first others each n none without zero cs t = without cs t
AllIndependent-none o R first others each n none without (suc c) cs t =
    elim none [ inl e ↦ absurd (omega (arith, t.of_first)) | inr e ↦ absurd (omega (arith, t.size)) ]

IsTaken-less : (first others each n c : ℕ) (cs : List ℕ) → IsTaken (suc first) others each (suc n) (suc c) cs → IsTaken first others each n c cs
IsTaken-less first others each n c cs t =
    record { of_first = omega (arith, t.of_first); coordinates = t.coordinates; at_most = t.at_most; size = omega (arith, t.size) }

IsTaken-more : (first others each n c : ℕ) (cs : List ℕ) → IsTaken first others each n c cs → IsTaken (suc first) others each (suc n) (suc c) cs
IsTaken-more first others each n c cs t =
    record { of_first = omega (arith, t.of_first); coordinates = t.coordinates; at_most = t.at_most; size = omega (arith, t.size) }

-- without a row of the first coordinate, and with one or more
pub AllIndependent-both : (o : Order) (R : List ℕ → List (List ℕ)) (first others each n : ℕ) → WithoutFirst o R (suc first) others each (suc n)
    → AllIndependent o (λ d. R (raised d)) first others each n → AllIndependent o R (suc first) others each (suc n)
AllIndependent-both o R first others each n without all zero cs t = without cs t
AllIndependent-both o R first others each n without all (suc c) cs t = all c cs (IsTaken-less first others each n c cs t)

-- found without a row of the first coordinate
pub IsFound-behind : (o : Order) (R : List ℕ → List (List ℕ)) (first others each n : ℕ) (ds : List ℕ) → IsFound o (λ ds. R (0 ∷ ds)) each others each n ds
    → IsFound o R first (suc others) each n (0 ∷ ds)
IsFound-behind o R first others each n [] found = absurd found
IsFound-behind o R first others each n (d ∷ ds) found =
    let t = found.taken in
    record {
      taken = record {
        of_first = omega arith;
        coordinates = omega (arith, t.coordinates);
        at_most = (t.of_first, t.at_most);
        size = omega (arith, t.size, sum-cons d ds);
      };
      dependent = found.dependent;
      earlier = λ e es taken before. earlier e es taken before;
    }
  where
    earlier : (e : ℕ) (es : List ℕ) → IsTaken first (suc others) each n e es → LexBefore (e ∷ es) (0 ∷ d ∷ ds) → Independent o (R (e ∷ es))
    earlier (suc e) es taken before = elim before [ inl l ↦ absurd (omega arith) | inr rest ↦ absurd (omega (arith, rest.0)) ]
    earlier zero [] taken before = absurd (omega (arith, taken.coordinates))
    earlier zero (e ∷ es) taken before =
        elim before [
          | inl l ↦ absurd (omega arith)
          | inr rest ↦ found.earlier e es (IsTaken-behind first others each n e es taken) rest.1
        ]

-- found with a row of the first coordinate
pub IsFound-raised : (o : Order) (R : List ℕ → List (List ℕ)) (first others each n c : ℕ) (cs : List ℕ) → WithoutFirst o R (suc first) others each (suc n)
    → IsFound o (λ d. R (raised d)) first others each n (c ∷ cs) → IsFound o R (suc first) others each (suc n) (suc c ∷ cs)
IsFound-raised o R first others each n c cs without found =
    record {
      taken = IsTaken-more first others each n c cs found.taken;
      dependent = found.dependent;
      earlier = earlier;
    }
  where
    earlier : (d : ℕ) (ds : List ℕ) → IsTaken (suc first) others each (suc n) d ds → LexBefore (d ∷ ds) (suc c ∷ cs) → Independent o (R (d ∷ ds))
    earlier zero ds taken before = without ds taken
    earlier (suc d) ds taken before =
        found.earlier d ds (IsTaken-less first others each n d ds taken)
        (elim before [
          | inl l ↦ let less : suc d < suc c = l in inl (omega arith)
          | inr rest ↦ inr (omega (arith, rest.0), rest.1)
        ])

-- the row itself is what makes it dependent
pub IsFound-one : (o : Order) (R : List ℕ → List (List ℕ)) (first others each n : ℕ) → 0 < first → 0 < n → WithoutFirst o R first others each n
    → (Independent o (R (1 ∷ replicate others 0)) → ⊥) → IsFound o R first others each n (1 ∷ replicate others 0)
IsFound-one o R first others each n some rows without dependent =
    record {
      taken = record {
        of_first = omega arith;
        coordinates = length-replicate others 0;
        at_most = AllAtMost-zeros each others;
        size = let e : sum (replicate others 0) ≡ 0 = sum_zeros others in omega arith;
      };
      dependent = dependent;
      earlier = earlier;
    }
  where
    earlier : (d : ℕ) (ds : List ℕ) → IsTaken first others each n d ds → LexBefore (d ∷ ds) (1 ∷ replicate others 0) → Independent o (R (d ∷ ds))
    earlier zero ds taken before = without ds taken
    earlier (suc d) ds taken before =
        elim before [
          | inl l ↦ let less : suc d < 1 = l in absurd (omega arith)
          | inr rest ↦ absurd (lex_none others ds rest.1)
        ]

-- no size is over a sum
AllAtMost-sum : (depth each n : ℕ) (c : List ℕ) → min depth n ≤ each → AllAtMost depth c → sum c ≤ n → AllAtMost each c
AllAtMost-sum depth each n [] h all l = tt
AllAtMost-sum depth each n (d ∷ ds) h all l =
    let a : d ≤ depth = all.0 in
    let e : sum (d ∷ ds) ≡ d + sum ds = sum-cons d ds in
    (omega arith, AllAtMost-sum depth each n ds h all.1 (omega arith))

AllAtMost-weaker : (each depth : ℕ) (c : List ℕ) → each ≤ depth → AllAtMost each c → AllAtMost depth c
AllAtMost-weaker each depth [] h all = tt
AllAtMost-weaker each depth (d ∷ ds) h all = let a : d ≤ each = all.0 in (omega arith, AllAtMost-weaker each depth ds h all.1)

-- a choice of at most n rows has at most n of each coordinate
IsTaken-of : (others depth each n c : ℕ) (cs : List ℕ) → min depth n ≤ each → IsChoice (suc others) depth (c ∷ cs) → sum (c ∷ cs) ≤ n → IsTaken each others each n c cs
IsTaken-of others depth each n c cs h choice size =
    let all = AllAtMost-sum depth each n (c ∷ cs) h choice.at_most size in
    record {
      of_first = all.0;
      coordinates = omega (arith, choice.coordinates);
      at_most = all.1;
      size = omega (arith, sum-cons c cs);
    }

-- nothing was found among the choices of all coordinates
pub Independent-whole : (o : Order) (R : List ℕ → List (List ℕ)) (others depth each n : ℕ) → min depth n ≤ each → AllIndependent o R each others each n
    → (c : List ℕ) → IsChoice (suc others) depth c → sum c ≤ n → Independent o (R c)
Independent-whole o R others depth each n h all [] choice size = absurd (omega (arith, choice.coordinates))
Independent-whole o R others depth each n h all (c ∷ cs) choice size = all c cs (IsTaken-of others depth each n c cs h choice size)

-- what was found among them
pub IsFirstByList-whole : (o : Order) (R : List ℕ → List (List ℕ)) (others depth each n : ℕ) (c : List ℕ) → each ≤ depth → min depth n ≤ each
    → IsFound o R each others each n c → IsFirstByList o (suc others) depth n R c
IsFirstByList-whole o R others depth each n [] g h found = absurd found
IsFirstByList-whole o R others depth each n (c ∷ cs) g h found =
    let t = found.taken in
    record {
      choice = record {
        coordinates = omega (arith, t.coordinates);
        at_most = (omega (arith, t.of_first), AllAtMost-weaker each depth cs g t.at_most);
      };
      size = omega (arith, t.size, sum-cons c cs);
      dependent = found.dependent;
      earlier = earlier;
    }
  where
    earlier : (d : List ℕ) → IsChoice (suc others) depth d → sum d ≤ n → LexBefore d (c ∷ cs) → Independent o (R d)
    earlier [] choice size before = absurd before
    earlier (d ∷ ds) choice size before = found.earlier d ds (IsTaken-of others depth each n d ds h choice size) before

-- the first by list is the first by size and list, where each lesser choice is independent
pub Earlier-by_list : (o : Order) (s depth n k : ℕ) (R : List ℕ → List (List ℕ)) (c : List ℕ) → IsFirstByList o s depth n R c
    → ((d : List ℕ) → IsChoice s depth d → sum d < sum c → Independent o (R d)) → EarlierIndependent o s depth k R c
Earlier-by_list o s depth n k R c first lesser d choice size before =
    elim before [
      | inl l ↦ lesser d choice l
      | inr rest ↦ let e : sum d ≡ sum c = rest.0 in let l = first.size in first.earlier d choice (omega arith) rest.1
    ]
