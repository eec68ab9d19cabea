-- Where a connection goes with imports, and with questions that no view answers.
use Rattle.std.specs.Prelude.{◌≢◌, ℕ, ◌-◌, List, [], length, take}
use Rattle.std.proofs.Common.{lit≤}
use Rattle.mt_derive.specs.declared.events.Event.{Event}
use Rattle.mt_publish.specs.States.{Publication}
use Rattle.mt_table.specs.declared.published.Base.{Base}
use Rattle.mt_service.specs.declared.outcomes.Outcome.{Outcome}
use Rattle.mt_service.specs.declared.outcomes.Outcome.TheVariants as outcome
use Rattle.mt_service.specs.Steps.{IsStep}

-- the list before an import, by what came of it and the list M after it
abbrev pub before : Outcome → List Event → List Event
before (outcome.Accepted n name raised tried) M = take (length M - 1) M
before (outcome.Withdrawn n name lowered tried) M = take (length M - 1) M
before o M = M

-- the text came to this outcome, and the list after it is M
abbrev pub IsImported : Base → List ℕ → Outcome → List Event → Type 0
IsImported base text o M = (o ≢ outcome.Memory) × IsStep base.bounds base.rules (before o M) text o M

-- what stands for a publication where a caller picks none
abbrev pub no_publication : Publication Base
no_publication = record {
  identity = record { words = 0; slots = 0; views_name = 0; atom = 0; block = 0; offset = 0; slot_names = [] };
  base = record {
    bounds = record { m_max = 1; s_max = 1; m_low = lit≤ tt; m_high = lit≤ tt; s_low = lit≤ tt; s_high = lit≤ tt };
    rules = record { used = [] };
  };
}
