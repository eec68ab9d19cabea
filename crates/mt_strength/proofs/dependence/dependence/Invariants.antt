use Rattle.std.proofs.Common.{◌≡◌, ◌+◌, ◌≤◌, take}
use Rattle.mt_linear.specs.Linear.{Independent}
use Rattle.mt_strength.specs.Dependence.{lists_of}
use Rattle.mt_strength.proofs.dependence.dependence.Given as goal

abbrev pub invariant-loop-row : goal.invariant-loop-row
invariant-loop-row g l = record {
  order : l.basis.order ≡ l.order;
  columns : l.basis.columns ≡ l.m;
  vectors : l.basis.vectors ≡ take l.row-index (lists_of l.rows);
  independent : Independent l.order l.basis.vectors;
  steps : l.steps ≤ l.fn.steps + l.row-index;
}
