-- The law of values.
use Rattle.std.specs.Prelude.{ℕ, ◌≤◌, List}
use Rattle.mt_cells.specs.declared.bounds.Bounds.{Bounds}
use Rattle.mt_cells.specs.declared.instances.Instance.{Instance}
use Rattle.mt_cells.specs.declared.rules.RuleSet.{RuleSet}
use Rattle.mt_cells.specs.Instances.{IsInstance, conclusion_of, second_or}
use Rattle.mt_derive.specs.declared.events.Event.{Event}
use Rattle.mt_derive.specs.Events.{entries_of}
use Rattle.mt_derive.specs.Trees.{IsValue}

-- over the events an instance concludes from the values of its parents at most the value of its target
abbrev pub ValuesAreClosed : Bounds → RuleSet → List Event → Type 0
ValuesAreClosed b rules E =
    (i : Instance) (first second target : ℕ) → IsInstance b rules i
    → IsValue b rules (entries_of E) i.first first → IsValue b rules (entries_of E) (second_or i.first i.second) second
    → IsValue b rules (entries_of E) i.target target → conclusion_of i first second ≤ target
