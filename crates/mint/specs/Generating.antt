-- The claims of a seed that are imported one after the other.
use Rattle.std.specs.Prelude.{◌≡◌, ℕ, ◌-◌, ◌^◌, min, List, [], ◌∷◌, ◌++◌, length, take, All, IsSome, sum_by, codes, decimal}
use Rattle.mt_system.specs.Statements.{Statement}
use Rattle.mt_cells.specs.declared.bounds.Bounds.{Bounds}
use Rattle.mt_cells.specs.declared.rules.RuleSet.{RuleSet}
use Rattle.mt_import.specs.Canonical.{canonical_text}
use Rattle.mt_derive.specs.declared.events.Event.{Event}
use Rattle.mt_derive.specs.Events.{entries_of}
use Rattle.mt_derive.specs.Values.{IsScore}
use Rattle.mt_service.specs.declared.outcomes.Outcome.{Outcome}
use Rattle.mt_service.specs.declared.outcomes.Outcome.TheVariants as outcome
use Rattle.mt_service.specs.Steps.{IsStep}
use Rattle.mt_gen.specs.Generated.{AreGenerated}
use Rattle.mint.specs.Statuses.{status_of}

-- ---- how many outcomes there are of each kind

abbrev pub accepted_by : Outcome → ℕ
accepted_by (outcome.Accepted n name raised tried) = 1
accepted_by o = 0

abbrev pub already_by : Outcome → ℕ
already_by (outcome.Already n name) = 1
already_by o = 0

-- an outcome of neither kind that ends no command
abbrev pub refused_by : Outcome → ℕ
refused_by (outcome.Accepted n name raised tried) = 0
refused_by (outcome.Already n name) = 0
refused_by outcome.KeeperFault = 0
refused_by outcome.Memory = 0
refused_by o = 1

-- how many instances of rules were tried for an outcome that is accepted
abbrev pub tried_by : Outcome → ℕ
tried_by (outcome.Accepted n name raised tried) = tried
tried_by o = 0

-- ---- the line

-- the line for n claims, of which so many were accepted, so many were there already and so many were refused, with the score and the instances that were tried
abbrev pub tally_text : ℕ → ℕ → ℕ → ℕ → ℕ → ℕ → List ℕ
tally_text n accepted already refused score tried =
    codes "generated " ++ decimal n ++ codes ": accepted " ++ decimal accepted ++ codes ", already " ++ decimal already ++ codes ", refused " ++ decimal refused
    ++ codes ", score " ++ decimal score ++ codes ", tried " ++ decimal tried ++ 10 ∷ []

-- the line for n claims that came to these outcomes; of the instances that were tried at most 2^64 - 1 are shown
abbrev pub generated_text : ℕ → List Outcome → ℕ → List ℕ
generated_text n outcomes score =
    tally_text n (sum_by accepted_by outcomes) (sum_by already_by outcomes) (sum_by refused_by outcomes) score (min (sum_by tried_by outcomes) (2 ^ 64 - 1))

-- ---- imports

module _ (b : Bounds) (rules : RuleSet) where
  -- the canonical texts of the claims come to these outcomes one after the other, from the list E on, and then the list is M
  abbrev pub AreImported : List Event → List Statement → List Outcome → List Event → Type 0
  AreImported E [] [] M = M ≡ E
  AreImported E [] (o ∷ outcomes) M = ⊥
  AreImported E (c ∷ claims) [] M = ⊥
  AreImported E (c ∷ claims) (o ∷ outcomes) M = (L : List Event) × IsStep b rules E (canonical_text c) o L × AreImported L claims outcomes M

  -- all claims of the seed were imported, no outcome ends the command, and this is their line
  pub record IsGeneratedRun (seed count : ℕ) (E M : List Event) (output : List ℕ) : Type 0 where
    pub claims : List Statement
    pub generated : AreGenerated seed b 1 seed claims
    pub count_is : length claims ≡ count
    pub outcomes : List Outcome
    pub imported : AreImported E claims outcomes M
    pub going : All (λ o. IsSome (status_of o)) outcomes
    pub score : ℕ
    pub score_is : IsScore b rules (entries_of M) score
    pub output_is : output ≡ generated_text count outcomes score

  -- the first n claims of the seed were imported, and no outcome ends the command
  pub record IsPartlyGenerated (seed count : ℕ) (E M : List Event) : Type 0 where
    pub claims : List Statement
    pub generated : AreGenerated seed b 1 seed claims
    pub count_is : length claims ≡ count
    pub n : ℕ
    pub outcomes : List Outcome
    pub imported : AreImported E (take n claims) outcomes M
    pub going : All (λ o. IsSome (status_of o)) outcomes
