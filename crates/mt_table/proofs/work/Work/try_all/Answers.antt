use Rattle.std.proofs.Common.{rules, arith, ◌+◌, le_trans}
use Rattle.mt_cells.proofs.SpotLemmas.{key_low}
use Rattle.mt_table.proofs.LineLemmas.{lines_step, all_tried}
use Rattle.mt_cells.specs.Spots.{key}
use Rattle.mt_table.proofs.StepLemmas.{Spends, spends_none, spends_line, fan_high}
use Rattle.mt_table.proofs.WorkLemmas.{grows_trans}
use Rattle.mt_table.proofs.work.Work.try_all.Goals as goal

pub loop-line-preserved : goal.loop-line-preserved
loop-line-preserved g c = (
  search rules,
  search rules,
  search rules,
  grows_trans c.args.self.now c.loop-line.self c.try_line-count.new.self c.loop-line.invariant.3 c.try_line-count.ensures.grows,
  lines_step c.args.self.now.bounds c.args.self.now.rules c.loop-line.self c.try_line-count.new.self c.args.cell _ _ c.in-Some.line.stage c.in-Some.line.m c.in-Some.line.depth c.requires c.try_line-count.ensures.grows c.loop-line.invariant.4
      (rw (c.loop-line.invariant.0, c.loop-line.invariant.1, c.loop-line.invariant.2) at c.in-Some.ensures.passed)
      (rw c.loop-line.invariant.0 at c.in-Some.ensures.position)
      (rw (c.loop-line.invariant.3.bounds, c.loop-line.invariant.3.rules) at c.try_line-count.ensures.tried),
  omega (arith, c.loop-line.invariant.5, c.try_line-count.ensures.counted),
  spends_line c.args.self.now.bounds _ _ c.loop-line.count c.try_line-count.result c.in-Some.line.stage c.in-Some.line.m c.in-Some.line.depth
      (rw c.loop-line.invariant.0 at c.in-Some.ensures.position) c.in-Some.ensures.after.0 c.in-Some.ensures.after.1
      (rw c.loop-line.invariant.0 at (le_trans c.try_line-count.ensures.few c.in-Some.ensures.line.last_high)) c.try_line-count.ensures.used c.loop-line.invariant.6,
)

pub loop-line-init : goal.loop-line-init
loop-line-init g c = (
  search rules,
  search rules,
  search rules,
  search rules,
  λ h m d s p x l. absurd (omega (arith, l, c.lines_of_parent-lines.ensures.first h m d s p)),
  omega arith,
  spends_none c.args.self.now.bounds _,
)

pub overflow_add-count : goal.overflow_add-count
overflow_add-count g c =
    let spent : Spends c.args.self.now.bounds (key c.next_line.new.lines.stage c.next_line.new.lines.m c.next_line.new.lines.depth) (c.loop-line.count + c.try_line-count.result) =
    spends_line c.args.self.now.bounds _ _ c.loop-line.count c.try_line-count.result c.in-Some.line.stage c.in-Some.line.m c.in-Some.line.depth
    (rw c.loop-line.invariant.0 at c.in-Some.ensures.position) c.in-Some.ensures.after.0 c.in-Some.ensures.after.1
    (rw c.loop-line.invariant.0 at (le_trans c.try_line-count.ensures.few c.in-Some.ensures.line.last_high)) c.try_line-count.ensures.used c.loop-line.invariant.6 in
    omega (arith, spent.few, fan_high c.args.self.now.bounds)

pub returns-clause-few : goal.returns-clause-few
returns-clause-few g c = c.loop-line.invariant.6.few

pub returns-clause-tried : goal.returns-clause-tried
returns-clause-tried g c = all_tried c.args.self.now.bounds c.args.self.now.rules c.loop-line.self c.args.cell _ c.requires c.loop-line.invariant.4 (rw (c.loop-line.invariant.0, c.loop-line.invariant.1, c.loop-line.invariant.2) at c.in_default.ensures.passed)

pub loop-line-smaller : goal.loop-line-smaller
loop-line-smaller g c = let lines = c.loop-line.lines in omega (arith, c.in-Some.ensures.after.0, c.in-Some.ensures.after.1, key_low lines.bounds lines.stage lines.m lines.depth lines.position)
