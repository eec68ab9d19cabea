-- Internal: a reader need not believe this.
-- Instances with two parents that follow from others.
use Rattle.std.specs.Prelude.{◌≡◌, ◌≢◌, ℕ, ◌+◌, ◌<◌, ◌≤◌, ◌⊎◌, true, min, Option, None, Some, ⊤}
use Rattle.mt_cells.specs.declared.bounds.Bounds.{Bounds}
use Rattle.mt_cells.specs.declared.cells.Cell.{Cell}
use Rattle.mt_cells.specs.declared.cells.Cell.TheVariants.{Ooa, Seq}
use Rattle.mt_cells.specs.declared.instances.Instance.{Instance}
use Rattle.mt_cells.specs.declared.lines.Stage.{Stage}
use Rattle.mt_cells.specs.declared.rules.Rule.{Rule}
use Rattle.mt_cells.specs.declared.rules.Rule.TheVariants.{Deeper, Product, Uuv}
use Rattle.mt_cells.specs.declared.rules.RuleSet.{RuleSet}
use Rattle.mt_cells.specs.Cells.{columns_of, coordinates_of}
use Rattle.mt_cells.specs.Instances.{has_rule}
use Rattle.mt_cells.specs.Spots.{IsSpot, instance_at, width}

-- the rows of each coordinate of its systems
abbrev pub depth_of : Cell → ℕ
depth_of (Ooa o m s depth) = depth
depth_of (Seq o m s) = 0

-- where deeper is configured, the first parent is as deep as its columns and the second parent let it be
abbrev pub IsDeepest : RuleSet → Cell → Cell → Type 0
IsDeepest rules p q = has_rule rules Deeper ≡ true → min (columns_of p) (depth_of q) ≤ depth_of p

-- where (u,u+v) is configured, no pair of the two parents of a product has an instance of it that concludes as much
abbrev pub IsOwn : RuleSet → Rule → Cell → Cell → Type 0
IsOwn rules r p q = r ≡ Product → has_rule rules Uuv ≡ true → (coordinates_of q < coordinates_of p) × (depth_of p < depth_of q)

abbrev pub IsNeededBy : RuleSet → Rule → Cell → Option Cell → Type 0
IsNeededBy rules r p None = ⊤
IsNeededBy rules r p (Some q) = IsDeepest rules p q × IsOwn rules r p q

-- the instance does not follow from one with a deeper first parent, nor from one of (u,u+v)
abbrev pub IsNeeded : RuleSet → Instance → Type 0
IsNeeded rules i = IsNeededBy rules i.rule i.first i.second

-- no needed instance of the rule has a first parent with m columns and this depth, and a second as deep as that
abbrev pub NoneNeeded : RuleSet → Rule → ℕ → ℕ → ℕ → Type 0
NoneNeeded rules r m depth deeper = ((has_rule rules Deeper ≡ true) × (depth < min m deeper)) ⊎ ((r ≡ Product) × (has_rule rules Uuv ≡ true) × (deeper ≤ depth))

-- of the other parents with m columns only those of one depth have needed instances of the stage with the cell
abbrev pub HasOneDepth : Bounds → RuleSet → Cell → Stage → Type 0
HasOneDepth b rules c g = (m d s : ℕ) → IsSpot b rules c g m d s → IsNeeded rules (instance_at c g m d s) → d ≡ min (depth_of c) m

-- from first to last, but for skip, there are spots only, and those of all needed instances
pub record IsPart (b : Bounds) (rules : RuleSet) (c : Cell) (g : Stage) (m d skip first last : ℕ) : Type 0 where
  pub only : (s : ℕ) → first ≤ s → s ≤ last → s ≢ skip → IsSpot b rules c g m d s
  pub all : (s : ℕ) → IsSpot b rules c g m d s → IsNeeded rules (instance_at c g m d s) → (first ≤ s) × (s ≤ last) × (s ≢ skip)
  pub first_low : 1 ≤ first
  pub last_high : last ≤ width b g
  pub near : first ≤ last + 1
