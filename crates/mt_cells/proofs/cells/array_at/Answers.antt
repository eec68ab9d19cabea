use Rattle.std.proofs.Common.{rules, arith}
use Rattle.mt_cells.specs.Cells.{triangle}
use Rattle.mt_cells.proofs.CellSearch.{search_m, array_found}
use Rattle.mt_cells.proofs.cells.array_at.Goals as goal

pub loop-m-init : goal.loop-m-init
unfolding triangle
loop-m-init c = search rules

pub loop-m-smaller : goal.loop-m-smaller
loop-m-smaller c =
    let next = search_m c.args.bounds.s_max c.args.bounds.m_max c.loop-m.m c.loop-m.rest c.args.before c.loop-m.invariant.high c.loop-m-test.true c.loop-m.invariant.passed c.requires in
    omega (arith, next.0)

pub loop-m-preserved : goal.loop-m-preserved
loop-m-preserved c =
    let next = search_m c.args.bounds.s_max c.args.bounds.m_max c.loop-m.m c.loop-m.rest c.args.before c.loop-m.invariant.high c.loop-m-test.true c.loop-m.invariant.passed c.requires in
    record { low = omega arith; high = next.0; passed = next.1 }

pub returns-clause-number : goal.returns-clause-number
returns-clause-number c = array_found c.args.bounds c.args.order c.loop-m.m c.loop-m.rest c.args.before c.loop-m.invariant.low c.loop-m.invariant.passed
