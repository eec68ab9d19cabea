-- Instances of the configured rules.
use Rattle.std.specs.Prelude.{◌≡◌, ◌≢◌, ℕ, ◌+◌, ◌*◌, ◌≤◌, ◌⊎◌, Bool, true, false, Option, None, Some, List, length, get_or, All, AllPairs, Contains}
use Rattle.mt_cells.specs.declared.bounds.Bounds.{Bounds}
use Rattle.mt_cells.specs.declared.cells.Cell.{Cell}
use Rattle.mt_cells.specs.declared.rules.Rule.{Rule}
use Rattle.mt_cells.specs.declared.rules.RuleSet.{RuleSet}
use Rattle.mt_cells.specs.declared.instances.Instance.{Instance}
use Rattle.mt_cells.specs.Cells.{InBounds}
use Rattle.mt_cells.specs.Rules.{rule_index, HasTarget, target, conclusion, HasPairTarget, pair_target, pair_conclusion}

-- the rule is among those of a table
abbrev pub has_rule : RuleSet → Rule → Bool
has_rule rules r = get_or rules.used (rule_index r) false

-- the rule leads from its parents, which are cells of the bounds, to the target
abbrev pub Leads : Bounds → Rule → Cell → Cell → Option Cell → Type 0
Leads b rule t first None = HasTarget b rule first × (t ≡ target rule first)
Leads b rule t first (Some second) = InBounds b second × HasPairTarget b rule first second × (t ≡ pair_target rule first second)

-- an instance of a configured rule in the bounds
pub record IsInstance (b : Bounds) (rules : RuleSet) (i : Instance) : Type 0 where
  pub configured : has_rule rules i.rule ≡ true
  pub first : InBounds b i.first
  pub leads : Leads b i.rule i.target i.first i.second

-- what an instance concludes from the values of its parents; a rule with one parent does not look at the second
abbrev pub conclusion_by : Rule → Cell → Option Cell → ℕ → ℕ → ℕ
conclusion_by rule first None j k = conclusion rule first j
conclusion_by rule first (Some second) j k = pair_conclusion rule first second j k

abbrev pub conclusion_of : Instance → ℕ → ℕ → ℕ
conclusion_of i j k = conclusion_by i.rule i.first i.second j k

-- the second parent, or the first where there is one only
abbrev pub second_or : Cell → Option Cell → Cell
second_or c None = c
second_or c (Some e) = e

-- the instance has the cell as a parent
abbrev pub HasParent : Cell → Instance → Type 0
HasParent c i = (i.first ≡ c) ⊎ (i.second ≡ Some c)

-- more instances than any cell is a parent of
abbrev pub fan_of : Bounds → ℕ
fan_of b = 8 + 4 * b.s_max * b.m_max * b.m_max

-- the list has each instance with this parent, each once, and nothing else
pub record IsListing (b : Bounds) (rules : RuleSet) (c : Cell) (instances : List Instance) : Type 0 where
  pub only : All (λ i. IsInstance b rules i × HasParent c i) instances
  pub each : (i : Instance) → IsInstance b rules i → HasParent c i → Contains instances i
  pub once : AllPairs (λ i j. i ≢ j) instances
  pub few : length instances ≤ fan_of b
