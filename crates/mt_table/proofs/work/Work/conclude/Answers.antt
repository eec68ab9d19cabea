use Rattle.mt_cells.specs.declared.bounds.TheConstants.{MOST_COLUMNS}
use Rattle.mt_cells.proofs.RuleLemmas.{high_by}
use Rattle.mt_cells.proofs.SpotLemmas.{inside}
use Rattle.mt_table.proofs.WorkLemmas.{grows_raised, propagated_raised, propagated_low}
use Rattle.mt_table.proofs.work.Work.conclude.Goals as goal

pub raise-requires-clause-high : goal.raise-requires-clause-high
raise-requires-clause-high g c = rw c.conclude-k.ensures.value (high_by c.args.instance.rule c.args.instance.first c.args.instance.second MOST_COLUMNS c.value_by-first.result c.value_by-second.result c.value_by-first.ensures.high c.value_by-second.ensures.high)

pub returns-then-value_by-k-clause-grows : goal.returns-then-value_by-k-clause-grows
returns-then-value_by-k-clause-grows g c = grows_raised c.args.self.now c.raise.new.self c.args.instance _ _ c.conclude-k.result c.requires.instance c.value_by-first.ensures.value (rw c.other.ensures at c.value_by-second.ensures.value) c.conclude-k.ensures.value (rw c.value_by.ensures.value at c.if-value_by-k.true) c.raise.ensures

pub returns-then-value_by-k-clause-propagated : goal.returns-then-value_by-k-clause-propagated
returns-then-value_by-k-clause-propagated g c = propagated_raised c.args.self.now c.raise.new.self c.args.instance _ _ c.conclude-k.result c.requires.instance c.value_by-first.ensures.value (rw c.other.ensures at c.value_by-second.ensures.value) c.conclude-k.ensures.value c.raise.ensures

pub returns-else-value_by-k-clause-propagated : goal.returns-else-value_by-k-clause-propagated
returns-else-value_by-k-clause-propagated g c = propagated_low c.args.self.now c.args.instance _ _ c.conclude-k.result c.value_by-first.ensures.value (rw c.other.ensures at c.value_by-second.ensures.value) c.conclude-k.ensures.value (rw c.value_by.ensures.value at c.if-value_by-k.false)

pub value_by-requires-clause-inside : goal.value_by-requires-clause-inside
value_by-requires-clause-inside g c = rw c.requires.bounds ((inside c.args.self.now.bounds c.args.self.now.rules c.args.instance c.requires.instance).0)
