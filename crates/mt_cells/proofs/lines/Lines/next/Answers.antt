use Rattle.std.proofs.Common.{arith, ◌∙◌}
use Rattle.mt_cells.proofs.SpotLemmas.{key_low, past_empty, past_line}
use Rattle.mt_cells.proofs.lines.Lines.next.Goals as goal

pub returns-then-line-clause-passed : goal.returns-then-line-clause-passed
returns-then-line-clause-passed c =
    let line = c.line-line.ensures in
    rw (line.stage_is, line.m_is, line.depth_is) (past_line c.args.self.now.bounds c.args.self.now.rules c.args.self.now.cell c.loop-self.self.stage c.loop-self.self.m c.loop-self.self.depth _ _ c.loop-self.invariant.passed (rw (c.loop-self.invariant.bounds, c.loop-self.invariant.rules, c.loop-self.invariant.cell) at c.step.ensures.none))

pub loop-self-preserved : goal.loop-self-preserved
loop-self-preserved c = record {
  bounds = c.step.ensures.bounds ∙ c.loop-self.invariant.bounds;
  rules = c.step.ensures.rules ∙ c.loop-self.invariant.rules;
  cell = c.step.ensures.cell ∙ c.loop-self.invariant.cell;
  later = omega (arith, c.step.ensures.later);
  passed = past_empty c.args.self.now.bounds c.args.self.now.rules c.args.self.now.cell c.loop-self.self.stage c.loop-self.self.m c.loop-self.self.depth _ _ _ c.args.self.now.inside (rw c.loop-self.invariant.bounds at c.loop-self.self.position) (rw (c.loop-self.invariant.bounds, c.loop-self.invariant.rules, c.loop-self.invariant.cell) at c.line-line.ensures) c.if-line.false c.loop-self.invariant.passed (rw (c.loop-self.invariant.bounds, c.loop-self.invariant.rules, c.loop-self.invariant.cell) at c.step.ensures.none);
}

pub loop-self-smaller : goal.loop-self-smaller
loop-self-smaller c = let self = c.loop-self.self in omega (arith, c.step.ensures.later, key_low self.bounds self.stage self.m self.depth self.position)
