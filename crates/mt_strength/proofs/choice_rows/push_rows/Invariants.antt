use Rattle.std.proofs.Common.{◌≡◌, ◌++◌, ◌-◌}
use Rattle.mt_system.specs.Rows.{part_rows, first_rows}
use Rattle.mt_strength.specs.Dependence.{lists_of, AllOf}
use Rattle.mt_strength.proofs.choice_rows.push_rows.Given as goal

abbrev pub invariant-loop-j : goal.invariant-loop-j
invariant-loop-j l = record {
  added : lists_of l.rows.items ≡ lists_of l.initial.rows.items ++ first_rows (part_rows l.system l.width (l.i - 1)) l.j;
  all : AllOf l.system.order l.width l.rows.items;
}
