-- Internal: a reader need not believe this.
-- The list of a parent's instances from a spot on.
use Rattle.std.specs.Prelude.{ℕ, zero, suc, ◌+◌, ◌-◌, ◌/◌, ◌%◌, ◌<◌, ◌≤◌, Bool, true, false, ◌&&◌, not, eqb, leb, cond, List, [], ◌∷◌}
use Rattle.mt_cells.specs.declared.bounds.Bounds.{Bounds}
use Rattle.mt_cells.specs.declared.cells.Cell.{Cell}
use Rattle.mt_cells.specs.declared.cells.Cell.TheVariants.{Ooa, Seq}
use Rattle.mt_cells.specs.declared.rules.Rule.{Rule}
use Rattle.mt_cells.specs.declared.rules.RuleSet.{RuleSet}
use Rattle.mt_cells.specs.declared.instances.Instance.{Instance}
use Rattle.mt_cells.specs.declared.lines.Stage.{Stage}
use Rattle.mt_cells.specs.declared.lines.Stage.TheVariants as stage
use Rattle.mt_cells.specs.declared.lines.Line.{Line}
use Rattle.mt_cells.specs.declared.lines.Lines.{Lines}
use Rattle.mt_cells.specs.Rules.{has_target, has_pair_target}
use Rattle.mt_cells.specs.Instances.{has_rule}
use Rattle.mt_cells.specs.Spots.{rank, stage_of, key, spot_number, end_number, other, IsSpot, IsRightLine, instance_at}

-- the values of f at those of the n numbers from start on that pass the test
unfoldable pub picked : {A : Type 0} → (ℕ → Bool) → (ℕ → A) → ℕ → ℕ → List A
picked p f zero start = []
picked p f (suc n) start = cond (p start) (f start ∷ picked p f n (start + 1)) (picked p f n (start + 1))

abbrev pub is_single_spot : Bounds → RuleSet → Rule → Cell → ℕ → ℕ → ℕ → Bool
is_single_spot b rules rule c m d s = has_rule rules rule && (has_target b rule c && (eqb m 1 && (eqb d 1 && eqb s 1)))

-- the array over its field with m, d and s is another cell
abbrev pub is_other : Cell → ℕ → ℕ → ℕ → Bool
is_other (Ooa o n t e) m d s = not (eqb m n && (eqb d e && eqb s t))
is_other (Seq o n t) m d s = true

abbrev pub is_array : Bounds → ℕ → ℕ → ℕ → Bool
is_array b m d s = leb 1 m && (leb m b.m_max && (leb 1 s && (leb s b.s_max && (leb 1 d && leb d m))))

abbrev pub is_pair : Bounds → RuleSet → Rule → Cell → Cell → Bool
is_pair b rules rule p q = has_rule rules rule && has_pair_target b rule p q

abbrev pub is_spot : Bounds → RuleSet → Cell → Stage → ℕ → ℕ → ℕ → Bool
is_spot b rules c (stage.Single rule) m d s = is_single_spot b rules rule c m d s
is_spot b rules c (stage.First r) m d s = is_array b m d s && is_pair b rules r c (other c m d s)
is_spot b rules c (stage.Second r) m d s = is_array b m d s && (is_pair b rules r (other c m d s) c && is_other c m d s)
is_spot b rules c stage.End m d s = false

-- the number is that of a spot
abbrev pub is_numbered : Bounds → RuleSet → Cell → ℕ → Bool
is_numbered b rules c n = eqb (rank (stage_of (n / 65536))) (n / 65536) && is_spot b rules c (stage_of (n / 65536)) (n / 2048 % 32) (n / 64 % 32) (n % 64)

abbrev pub instance_numbered : Cell → ℕ → Instance
instance_numbered c n = instance_at c (stage_of (n / 65536)) (n / 2048 % 32) (n / 64 % 32) (n % 64)

-- the instances at the spots from this number on
unfoldable pub instances_from : Bounds → RuleSet → Cell → ℕ → List Instance
instances_from b rules c n = picked (is_numbered b rules c) (instance_numbered c) (end_number - n) n

-- those from the spot of the line at s on
abbrev pub instances_left : Lines → Line → ℕ → List Instance
instances_left lines line s = instances_from lines.bounds lines.rules lines.cell (spot_number line.stage line.m line.depth s)

-- the lines go on right after the line, of which the spots below s are passed
pub record IsCursor (lines : Lines) (line : Line) (s : ℕ) : Type 0 where
  pub right : IsRightLine lines.bounds lines.rules lines.cell line.stage line.m line.depth line
  pub m_small : line.m < 32
  pub depth_small : line.depth < 32
  pub last_small : line.last < 63
  pub from : line.first ≤ s
  pub high : s ≤ 63
  pub before : key line.stage line.m line.depth < key lines.stage lines.m lines.depth
  pub ahead : (g : Stage) (m d s : ℕ) → IsSpot lines.bounds lines.rules lines.cell g m d s → key line.stage line.m line.depth < key g m d → key lines.stage lines.m lines.depth ≤ key g m d
