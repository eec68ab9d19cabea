use Rattle.std.proofs.Common.{arith, ap, length, ◌∙◌}
use Rattle.mt_cells.proofs.ListedLemmas.{cursor_skip, cursor_here, cursor_end, cursor_next}
use Rattle.mt_cells.proofs.instances.InstancesIterator.next.Goals as goal

pub returns-in_err-self-inside-clause-steps : goal.returns-in_err-self-inside-clause-steps
returns-in_err-self-inside-clause-steps c =
    let at = c.loop-self.self-inside in
    let told = c.in_err-self-inside.ensures in
    let end = cursor_end at.lines at.line at.s c.loop-self.invariant.cursor c.next.new.self told.bounds told.rules told.cell c.if-self-s.true told.passed told.later in
    rw c.from_residual.ensures (c.loop-self.invariant.same ∙ end.1, end.2)

pub loop-self-preserved-then-self-s : goal.loop-self-preserved-then-self-s
loop-self-preserved-then-self-s c =
    let at = c.loop-self.self-inside in
    let told = c.in_ok-self-inside.ensures in
    let next = cursor_next at.lines at.line at.s c.loop-self.invariant.cursor c.next.new.self told.bounds told.rules told.cell c.if-self-s.true c.in_ok-self-inside.field-0 told.position told.line told.after.0 told.after.1 told.some told.passed in
    record { cursor = next.0; same = c.loop-self.invariant.same ∙ next.1 }

pub loop-self-preserved : goal.loop-self-preserved
loop-self-preserved c =
    let at = c.loop-self.self-inside in
    let skip = cursor_skip at.lines at.line at.s c.loop-self.invariant.cursor c.if-s-self.true c.if-self-s.false in
    record { cursor = skip.0; same = c.loop-self.invariant.same ∙ skip.1 }

pub returns-else-s-self-clause-steps : goal.returns-else-s-self-clause-steps
returns-else-s-self-clause-steps c =
    let at = c.loop-self.self-inside in
    let here = cursor_here at.lines at.line at.s c.loop-self.invariant.cursor c.if-s-self.false c.if-self-s.false in
    rw c.instance.ensures (c.loop-self.invariant.same ∙ here.2)

pub returns-else-s-self-clause-goes : goal.returns-else-s-self-clause-goes
returns-else-s-self-clause-goes c =
    let at = c.loop-self.self-inside in
    let here = cursor_here at.lines at.line at.s c.loop-self.invariant.cursor c.if-s-self.false c.if-self-s.false in
    let fewer = ap length (c.loop-self.invariant.same ∙ here.2) in
    record { on = λ _. (tt, tt, omega (arith, fewer)); keeps = tt; rests = λ _. tt }
