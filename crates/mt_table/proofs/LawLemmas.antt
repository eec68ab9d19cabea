-- No instance concludes more than the value of its target.
use Rattle.std.proofs.Common.{ℕ, ◌<◌, ◌≤◌, ⊎_elim, Option, Some, None, List, arith, le_trans}
use Rattle.std.proofs.lemmas.Bool.{cases_lt}
use Rattle.mt_cells.specs.declared.bounds.Bounds.{Bounds}
use Rattle.mt_cells.specs.declared.cells.Cell.{Cell}
use Rattle.mt_cells.specs.declared.rules.Rule.{Rule}
use Rattle.mt_cells.specs.declared.rules.RuleSet.{RuleSet}
use Rattle.mt_cells.specs.Rules.{conclusion, pair_conclusion}
use Rattle.mt_cells.specs.Instances.{IsInstance, conclusion_by, second_or}
use Rattle.mt_derive.specs.Events.{entries_of}
use Rattle.mt_derive.specs.declared.events.Event.{Event}
use Rattle.mt_derive.specs.Trees.{Entry, one, two, step, IsValue}
use Rattle.mt_derive.proofs.TreeLemmas.{one_concluded, two_concluded}
use Rattle.mt_table.specs.Laws.{ValuesAreClosed}

closed_by : (b : Bounds) (rules : RuleSet) (L : List Entry) (r : Rule) (c p : Cell) (q : Option Cell) (j k v : ℕ) → IsInstance b rules (step r c p q)
    → IsValue b rules L p j → IsValue b rules L (second_or p q) k → IsValue b rules L c v → conclusion_by r p q j k ≤ v
closed_by b rules L r c p None j k v h first second target = ⊎_elim
    (λ (x : 0 < conclusion r p j). target.greatest (one r c first.tree) (conclusion r p j) (one_concluded b rules L r c p h first.tree j first.reached x))
    (λ (x : conclusion r p j ≤ 0). le_trans x (omega arith))
    (cases_lt 0 (conclusion r p j))
closed_by b rules L r c p (Some q) j k v h first second target =
    target.greatest (two r c first.tree second.tree) (pair_conclusion r p q j k) (two_concluded b rules L r c p q h first.tree second.tree j k first.reached second.reached)

pub values_closed : (b : Bounds) (rules : RuleSet) (E : List Event) → ValuesAreClosed b rules E
values_closed b rules E i j k v h first second target = closed_by b rules (entries_of E) i.rule i.target i.first i.second j k v h first second target
