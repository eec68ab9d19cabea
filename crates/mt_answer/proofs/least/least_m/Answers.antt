use Rattle.std.proofs.Common.{ap, arith}
use Rattle.mt_cells.specs.declared.bounds.Bounds.{Bounds}
use Rattle.mt_answer.proofs.ValueLemmas.{none_yet, least_here}
use Rattle.mt_answer.proofs.least.least_m.Goals as goal

pub returns-then-k-value : goal.returns-then-k-value
returns-then-k-value c =
    let t = c.args.table.now in
    let most = ap (λ (b : Bounds). b.m_max) c.bounds-before-end.ensures in (
      (omega arith, omega (arith, c.loop-before-test.true, most)),
      (c.value.result, c.value.ensures, c.if-k-value.true),
      least_here t.bounds t.rules t.events c.args.order c.args.s c.args.k c.loop-before.before c.loop-before.invariant,
    )

pub loop-before-preserved : goal.loop-before-preserved
loop-before-preserved c =
    let t = c.args.table.now in
    none_yet t.bounds t.rules t.events c.args.order c.args.s c.args.k c.loop-before.before c.value.result c.loop-before.invariant c.value.ensures (λ l. omega (arith, l, c.if-k-value.false))

pub returns : goal.returns
returns c m inside has =
    let most = ap (λ (b : Bounds). b.m_max) c.bounds-before-end.ensures in
    c.loop-before.invariant m inside (omega (arith, inside.1, c.loop-before-test.false, most)) has
