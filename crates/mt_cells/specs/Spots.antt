-- Internal: a reader need not believe this.
-- The spots of a parent's instances, in order. A spot is a stage, m and depth of the other parent, and its s.
use Rattle.std.specs.Prelude.{◌≡◌, ◌≢◌, ℕ, zero, suc, ◌+◌, ◌-◌, ◌*◌, ◌/◌, ◌%◌, ◌≤◌, ◌↔◌, true, false, cond, min, Option, None, Some, slice_get}
use Rattle.mt_cells.specs.declared.bounds.Bounds.{Bounds}
use Rattle.mt_cells.specs.declared.cells.Cell.{Cell}
use Rattle.mt_cells.specs.declared.cells.Cell.TheVariants.{Ooa, Seq}
use Rattle.mt_cells.specs.declared.rules.Rule.{Rule}
use Rattle.mt_cells.specs.declared.rules.Rule.TheVariants.{Fewer, Uuv}
use Rattle.mt_cells.specs.declared.rules.RuleSet.{RuleSet}
use Rattle.mt_cells.specs.declared.rules.TheConstants.{RULES}
use Rattle.mt_cells.specs.declared.instances.Instance.{Instance}
use Rattle.mt_cells.specs.declared.lines.Stage.{Stage}
use Rattle.mt_cells.specs.declared.lines.Stage.TheVariants as stage
use Rattle.mt_cells.specs.declared.lines.Line.{Line}
use Rattle.mt_cells.specs.Cells.{InBounds, order_of, coordinates_of}
use Rattle.mt_cells.specs.Rules.{HasTarget, target, HasPairTarget, pair_target, rule_index, all_rules, is_pair_rule}
use Rattle.mt_cells.specs.Instances.{has_rule}

-- ---- stages

-- the order of the stages: three for each rule
abbrev pub rank : Stage → ℕ
rank (stage.Single r) = 3 * rule_index r
rank (stage.First r) = 3 * rule_index r + 1
rank (stage.Second r) = 3 * rule_index r + 2
rank stage.End = 3 * RULES

abbrev pub stage_by : Option Rule → ℕ → Stage
stage_by None n = stage.End
stage_by (Some r) zero = stage.Single r
stage_by (Some r) (suc zero) = stage.First r
stage_by (Some r) (suc (suc n)) = stage.Second r

-- the stage of a rank
abbrev pub stage_of : ℕ → Stage
stage_of n = stage_by (slice_get all_rules (n / 3)) (n % 3)

-- the stage has spots: it is that of the parents that its rule has
abbrev pub IsUsed : Stage → Type 0
IsUsed (stage.Single r) = is_pair_rule r ≡ false
IsUsed (stage.First r) = is_pair_rule r ≡ true
IsUsed (stage.Second r) = is_pair_rule r ≡ true
IsUsed stage.End = ⊥

-- the first stage of a rule that has spots
abbrev pub first_stage : Option Rule → Stage
first_stage None = stage.End
first_stage (Some r) = cond (is_pair_rule r) (stage.First r) (stage.Single r)

-- the order of the lines: m and depth are below 32
abbrev pub key : Stage → ℕ → ℕ → ℕ
key g m d = rank g * 1024 + (m * 32 + d)

-- no line has this key or one above it
abbrev pub end_key : ℕ
end_key = (rank stage.End + 1) * 1024

-- the order of the spots: s is below 64
abbrev pub spot_number : Stage → ℕ → ℕ → ℕ → ℕ
spot_number g m d s = key g m d * 64 + s

-- no spot has this number or one above it
abbrev pub end_number : ℕ
end_number = rank stage.End * 65536

-- the greatest m of another parent in the bounds; 1 where there is none
abbrev pub top : Bounds → Stage → ℕ
top b (stage.Single r) = 1
top b stage.End = 1
top b g = b.m_max

-- the greatest m of the other parent of this cell; 1 where there is none
abbrev pub reach : Bounds → Cell → Stage → ℕ
reach b c (stage.Single r) = 1
reach b c stage.End = 1
reach b (Ooa o m s depth) g = b.m_max - m
reach b (Seq o m s) g = 1

-- where a line may stand
abbrev pub IsPosition : Bounds → Stage → ℕ → ℕ → Type 0
IsPosition b g m d = (1 ≤ m) × (m ≤ top b g) × (1 ≤ d) × (d ≤ m)

-- ---- spots

-- the spot of the instance of a rule with one parent
abbrev pub IsSingleSpot : Bounds → RuleSet → Rule → Cell → ℕ → ℕ → ℕ → Type 0
IsSingleSpot b rules r c m d s = (has_rule rules r ≡ true) × HasTarget b r c × (m ≡ 1) × (d ≡ 1) × (s ≡ 1)

-- the other parent at a spot
abbrev pub other : Cell → ℕ → ℕ → ℕ → Cell
other c m d s = Ooa (order_of c) m s d

-- the two are the parents of an instance of a rule with two parents
abbrev pub IsPair : Bounds → RuleSet → Rule → Cell → Cell → Type 0
IsPair b rules r p q = (has_rule rules r ≡ true) × HasPairTarget b r p q

-- the spot holds an instance of a configured rule with the cell as a parent; a pair of the cell with itself stands among those with the cell as first
abbrev pub IsSpot : Bounds → RuleSet → Cell → Stage → ℕ → ℕ → ℕ → Type 0
IsSpot b rules c (stage.Single r) m d s = IsSingleSpot b rules r c m d s
IsSpot b rules c (stage.First r) m d s = InBounds b (other c m d s) × IsPair b rules r c (other c m d s)
IsSpot b rules c (stage.Second r) m d s = InBounds b (other c m d s) × IsPair b rules r (other c m d s) c × (other c m d s ≢ c)
IsSpot b rules c stage.End m d s = ⊥

abbrev pub single_instance : Rule → Cell → Instance
single_instance r c = record { rule = r; target = target r c; first = c; second = None }

abbrev pub pair_instance : Rule → Cell → Cell → Instance
pair_instance r p q = record { rule = r; target = pair_target r p q; first = p; second = Some q }

-- the instance at a spot
abbrev pub instance_at : Cell → Stage → ℕ → ℕ → ℕ → Instance
instance_at c (stage.Single r) m d s = single_instance r c
instance_at c (stage.First r) m d s = pair_instance r c (other c m d s)
instance_at c (stage.Second r) m d s = pair_instance r (other c m d s) c
instance_at c stage.End m d s = single_instance Fewer c

-- ---- lines

-- no line of the stage has an s above this
abbrev pub width : Bounds → Stage → ℕ
width b (stage.Single r) = 1
width b stage.End = 0
width b g = b.s_max - 1

-- the cell as first parent, or as second, fits an array with m, d and s
abbrev pub FitsFirst : Bounds → RuleSet → Rule → Cell → ℕ → ℕ → ℕ → Type 0
FitsFirst b rules r (Ooa o n t e) m d s = (is_pair_rule r ≡ true) × (has_rule rules r ≡ true) × (n + m ≤ b.m_max) × (e ≤ d) × (t + s ≤ b.s_max)
FitsFirst b rules r (Seq o n t) m d s = ⊥

abbrev pub FitsSecond : Bounds → RuleSet → Rule → Cell → ℕ → ℕ → ℕ → Type 0
FitsSecond b rules r (Ooa o n t e) m d s = (is_pair_rule r ≡ true) × (has_rule rules r ≡ true) × (n + m ≤ b.m_max) × (d ≤ e) × (t + s ≤ b.s_max)
FitsSecond b rules r (Seq o n t) m d s = ⊥

-- the least s of a second parent of this first one, and the greatest of a first parent of this second one, up to a limit
abbrev pub least_second : Rule → Cell → ℕ
least_second Uuv p = coordinates_of p
least_second r p = 1

abbrev pub most_first : Rule → Cell → ℕ → ℕ
most_first Uuv q limit = min (coordinates_of q) limit
most_first r q limit = limit

-- the line has the spots at stage, m and depth
pub record IsRightLine (b : Bounds) (rules : RuleSet) (c : Cell) (g : Stage) (m d : ℕ) (l : Line) : Type 0 where
  pub stage_is : l.stage ≡ g
  pub m_is : l.m ≡ m
  pub depth_is : l.depth ≡ d
  pub spots : (s : ℕ) → IsSpot b rules c g m d s ↔ ((l.first ≤ s) × (s ≤ l.last) × (s ≢ l.skip))
  pub first_low : 1 ≤ l.first
  pub last_high : l.last ≤ width b g
