use Rattle.std.proofs.Common.{◌≡◌, ◌++◌, ◌+◌, drop}
use Rattle.mt_system.specs.Rows.{part_rows, rows_by}
use Rattle.mt_strength.specs.Dependence.{lists_of, AllOf}
use Rattle.mt_strength.proofs.choice_rows.choice_rows.Given as goal

abbrev pub invariant-loop-i : goal.invariant-loop-i
invariant-loop-i l = record {
  rest : lists_of l.rows.items ++ rows_by (λ n. part_rows l.system l.width (n + l.i)) (drop l.i l.sizes) ≡ rows_by (part_rows l.system l.width) l.sizes;
  all : AllOf l.system.order l.width l.rows.items;
}
