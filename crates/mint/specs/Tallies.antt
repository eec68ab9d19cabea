-- Internal: what is counted of outcomes.
use Rattle.std.specs.Prelude.{◌≡◌, ◌-◌, ◌^◌, min, List, sum_by}
use Rattle.mt_service.specs.declared.outcomes.Outcome.{Outcome}
use Rattle.mint.specs.declared.generating.Tally.{Tally}
use Rattle.mint.specs.Generating.{accepted_by, already_by, refused_by, tried_by}

-- the tally counts these outcomes
pub record IsTally (outcomes : List Outcome) (t : Tally) : Type 0 where
  pub accepted : t.accepted ≡ sum_by accepted_by outcomes
  pub already : t.already ≡ sum_by already_by outcomes
  pub refused : t.refused ≡ sum_by refused_by outcomes
  pub tried : t.tried ≡ min (sum_by tried_by outcomes) (2 ^ 64 - 1)
