-- Imports of claims one after the other: one claim more, and what is counted of them.
use Rattle.std.proofs.Common.{◌≡◌, ℕ, ◌+◌, ◌-◌, ◌^◌, ◌<◌, ◌≤◌, min, List, [], ◌∷◌, ◌++◌, length, map, take, get_or, refl, sym, ap, ◌∙◌, subst, arith}
use Rattle.std.specs.Prelude.{IsSome, All, sum_by}
use Rattle.std.proofs.lemmas.List.{take_all, take_more, take-map, map_push, length-map}
use Rattle.std.proofs.lemmas.List.Elements.{All-nil, All-push}
use Rattle.std.proofs.lemmas.List.Sums.{sum_by_push}
use Rattle.mt_system.specs.declared.claims.Claim.{Claim}
use Rattle.mt_system.specs.Statements.{Statement, statement_of}
use Rattle.mt_cells.specs.declared.bounds.Bounds.{Bounds}
use Rattle.mt_cells.specs.declared.rules.RuleSet.{RuleSet}
use Rattle.mt_import.specs.Canonical.{canonical_text}
use Rattle.mt_derive.specs.declared.events.Event.{Event}
use Rattle.mt_derive.specs.Events.{entries_of}
use Rattle.mt_derive.specs.Values.{IsScore}
use Rattle.mt_gen.specs.Generated.{AreGenerated}
use Rattle.mt_service.specs.declared.outcomes.Outcome.{Outcome}
use Rattle.mt_service.specs.declared.outcomes.Outcome.TheVariants as outcome
use Rattle.mt_service.specs.Steps.{IsStep}
use Rattle.mint.specs.declared.generating.Tally.{Tally}
use Rattle.mint.specs.Generating.{accepted_by, already_by, refused_by, tried_by, tally_text, generated_text, AreImported, IsGeneratedRun, IsPartlyGenerated}
use Rattle.mint.specs.Statuses.{status_of}
use Rattle.mint.specs.Tallies.{IsTally}

-- ---- what is counted

pub one_counted : (o : Outcome) → accepted_by o + already_by o + refused_by o ≤ 1
one_counted (outcome.Accepted n name raised tried) = omega arith
one_counted (outcome.Already n name) = omega arith
one_counted outcome.KeeperFault = omega arith
one_counted outcome.Memory = omega arith
one_counted o = omega arith

-- one outcome more
pub record IsCounted (o : Outcome) (before after : Tally) : Type 0 where
  pub accepted : after.accepted ≡ before.accepted + accepted_by o
  pub already : after.already ≡ before.already + already_by o
  pub refused : after.refused ≡ before.refused + refused_by o
  pub tried : after.tried ≡ min (before.tried + tried_by o) (2 ^ 64 - 1)

tally_push : (outcomes : List Outcome) (o : Outcome) (before after : Tally) → IsTally outcomes before → IsCounted o before after → IsTally (outcomes ++ o ∷ []) after
tally_push outcomes o before after t c = record {
  accepted = omega (arith, c.accepted, t.accepted, sum_by_push accepted_by outcomes o);
  already = omega (arith, c.already, t.already, sum_by_push already_by outcomes o);
  refused = omega (arith, c.refused, t.refused, sum_by_push refused_by outcomes o);
  tried = omega (arith, c.tried, t.tried, sum_by_push tried_by outcomes o);
}

same_line : (n : ℕ) (outcomes : List Outcome) (t : Tally) (score : ℕ) → IsTally outcomes t
    → tally_text n t.accepted t.already t.refused score t.tried ≡ generated_text n outcomes score
same_line n outcomes t score k =
    ap (λ (m : ℕ). tally_text n m t.already t.refused score t.tried) k.accepted
    ∙ ap (λ (m : ℕ). tally_text n (sum_by accepted_by outcomes) m t.refused score t.tried) k.already
    ∙ ap (λ (m : ℕ). tally_text n (sum_by accepted_by outcomes) (sum_by already_by outcomes) m score t.tried) k.refused
    ∙ ap (λ (m : ℕ). tally_text n (sum_by accepted_by outcomes) (sum_by already_by outcomes) (sum_by refused_by outcomes) score m) k.tried

-- ---- one claim more

one_more : (claims : List Claim) (n : ℕ) (d : Claim) → n < length claims
    → take (n + 1) (map statement_of claims) ≡ take n (map statement_of claims) ++ statement_of (get_or claims n d) ∷ []
one_more claims n d below =
    take-map statement_of (n + 1) claims ∙ ap (map statement_of) (take_more claims n d below) ∙ map_push statement_of (take n claims) (get_or claims n d)
    ∙ ap (λ (l : List Statement). l ++ statement_of (get_or claims n d) ∷ []) (sym (take-map statement_of n claims))

module _ (b : Bounds) (rules : RuleSet) where
  imported_push : (E : List Event) (claims : List Statement) (outcomes : List Outcome) (L : List Event) (c : Statement) (o : Outcome) (M : List Event)
      → AreImported b rules E claims outcomes L → IsStep b rules L (canonical_text c) o M → AreImported b rules E (claims ++ c ∷ []) (outcomes ++ o ∷ []) M
  imported_push E [] [] L c o M is step = (M, subst (λ (K : List Event). IsStep b rules K (canonical_text c) o M) is step, refl)
  imported_push E [] (x ∷ outcomes) L c o M is step = absurd is
  imported_push E (d ∷ claims) [] L c o M is step = absurd is
  imported_push E (d ∷ claims) (x ∷ outcomes) L c o M (K, first, rest) step = (K, first, imported_push K claims outcomes L c o M rest step)

  -- the first n claims are imported, and the tally counts what came of them
  pub record HaveCome (E : List Event) (claims : List Claim) (n : ℕ) (M : List Event) (t : Tally) : Type 0 where
    pub outcomes : List Outcome
    pub imported : AreImported b rules E (take n (map statement_of claims)) outcomes M
    pub going : All (λ o. IsSome (status_of o)) outcomes
    pub tally : IsTally outcomes t

  pub none_come : (E : List Event) (claims : List Claim) (t : Tally) → IsTally [] t → HaveCome E claims 0 E t
  none_come E claims t tally = record { outcomes = []; imported = refl; going = All-nil (λ (o : Outcome). IsSome (status_of o)); tally = tally }

  pub one_comes : (E : List Event) (claims : List Claim) (n : ℕ) (d : Claim) (L : List Event) (before : Tally) (o : Outcome) (M : List Event) (after : Tally)
      → n < length claims → HaveCome E claims n L before → IsStep b rules L (canonical_text (statement_of (get_or claims n d))) o M
      → IsSome (status_of o) → IsCounted o before after → HaveCome E claims (n + 1) M after
  one_comes E claims n d L before o M after below come step going counted =
      let c = statement_of (get_or claims n d) in
      record {
        outcomes = come.outcomes ++ o ∷ [];
        imported = subst (λ (l : List Statement). AreImported b rules E l (come.outcomes ++ o ∷ []) M) (sym (one_more claims n d below))
            (imported_push E (take n (map statement_of claims)) come.outcomes L c o M come.imported step);
        going = All-push (λ (x : Outcome). IsSome (status_of x)) come.outcomes o come.going going;
        tally = tally_push come.outcomes o before after come.tally counted;
      }

  -- what came of some of the claims, or of all
  abbrev pub SomeCame : List Event → List Statement → List Event → Type 0
  SomeCame E claims M = (n : ℕ) × (outcomes : List Outcome) × AreImported b rules E (take n claims) outcomes M × All (λ o. IsSome (status_of o)) outcomes

  abbrev pub AllCame : List Event → List Statement → List Event → Tally → Type 0
  AllCame E claims M t = (outcomes : List Outcome) × AreImported b rules E claims outcomes M × All (λ o. IsSome (status_of o)) outcomes × IsTally outcomes t

  pub first_came : (E : List Event) (claims : List Claim) (n : ℕ) (L M : List Event) (t : Tally) → M ≡ L → HaveCome E claims n L t → SomeCame E (map statement_of claims) M
  first_came E claims n L M t is come = (
    n,
    come.outcomes,
    subst (λ (K : List Event). AreImported b rules E (take n (map statement_of claims)) come.outcomes K) (sym is) come.imported,
    come.going,
  )

  pub all_came : (E : List Event) (claims : List Claim) (n : ℕ) (M : List Event) (t : Tally) → length claims ≤ n → HaveCome E claims n M t
      → AllCame E (map statement_of claims) M t
  all_came E claims n M t all come = (
    come.outcomes,
    subst (λ (l : List Statement). AreImported b rules E l come.outcomes M)
        (take_all n (map statement_of claims) (omega (arith, length-map claims statement_of, all))) come.imported,
    come.going,
    come.tally,
  )

  -- ---- the claims of a seed

  module _ (seed count : ℕ) (claims : List Claim) (generated : AreGenerated seed b 1 seed (map statement_of claims)) (size : length claims ≡ count) where
    pub partly_generated : (E M : List Event) → SomeCame E (map statement_of claims) M → IsPartlyGenerated b rules seed count E M
    partly_generated E M came = record {
      claims = map statement_of claims;
      generated = generated;
      count_is = length-map claims statement_of ∙ size;
      n = came.0;
      outcomes = came.1;
      imported = came.2;
      going = came.3;
    }

    -- all of them are some
    pub wholly_generated : (E M : List Event) (t : Tally) → AllCame E (map statement_of claims) M t → IsPartlyGenerated b rules seed count E M
    wholly_generated E M t came = partly_generated E M (
      count,
      came.0,
      subst (λ (l : List Statement). AreImported b rules E l came.0 M)
          (sym (take_all count (map statement_of claims) (omega (arith, length-map claims statement_of, size)))) came.1,
      came.2,
    )

    pub generated_run : (E M : List Event) (t : Tally) (score : ℕ) (output : List ℕ) → AllCame E (map statement_of claims) M t → IsScore b rules (entries_of M) score
        → output ≡ tally_text count t.accepted t.already t.refused score t.tried → IsGeneratedRun b rules seed count E M output
    generated_run E M t score output came is line = record {
      claims = map statement_of claims;
      generated = generated;
      count_is = length-map claims statement_of ∙ size;
      outcomes = came.0;
      imported = came.1;
      going = came.2;
      score = score;
      score_is = is;
      output_is = line ∙ same_line count came.0 t score came.3;
    }
