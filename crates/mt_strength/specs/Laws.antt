-- The laws of strength.
use Rattle.std.specs.Prelude.{◌≡◌, ℕ, ◌*◌, ◌≤◌, ◌↔◌, List, sum}
use Rattle.mt_linear.specs.Linear.{Independent}
use Rattle.mt_system.specs.Choices.{IsChoice}
use Rattle.mt_system.specs.Rows.{Matrices, rows_of, Strength}

-- every choice of exactly k rows is independent
abbrev pub ExactStrength : Matrices → ℕ → Type 0
ExactStrength a k = (c : List ℕ) → IsChoice a.coordinates a.depth c → sum c ≡ k → Independent a.order (rows_of a c)

-- where there are k rows, strength k may be asked of choices of exactly k rows
abbrev pub StrengthIsExact : Matrices → ℕ → Type 0
StrengthIsExact a k = k ≤ a.coordinates * a.depth → Strength a k ↔ ExactStrength a k
