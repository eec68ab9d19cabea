-- Why a check refuses a text.
use Rattle.std.specs.Prelude.{◌≡◌, ℕ, ◌⊎◌, List}
use Rattle.mt_system.specs.Statements.{Statement}
use Rattle.mt_strength.specs.Checks.{IsFailure}
use Rattle.mt_cells.specs.declared.bounds.Bounds.{Bounds}
use Rattle.mt_service.specs.declared.outcomes.Outcome.{Outcome}
use Rattle.mt_service.specs.declared.outcomes.Outcome.TheVariants as outcome
use Rattle.mt_service.specs.Gate.{Reads, IsUnread}

-- why a claim does not hold
abbrev pub IsDependence : Statement → Outcome → Type 0
IsDependence c (outcome.Dependent form part choice coefficients) = (form ≡ c.form) × IsFailure c.form c.system c.k part choice coefficients
IsDependence c o = ⊥

-- no claim is read from the text, or it does not hold
abbrev pub IsRefused : Bounds → List ℕ → Outcome → Type 0
IsRefused b text o = IsUnread b text o ⊎ ((c : Statement) × Reads b text c × IsDependence c o)
