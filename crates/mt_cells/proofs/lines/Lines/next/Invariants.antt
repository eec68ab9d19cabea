use Rattle.std.proofs.Common.{◌≡◌, ℕ, ◌-◌, ◌≤◌}
use Rattle.mt_cells.specs.declared.lines.Stage.{Stage}
use Rattle.mt_cells.specs.Spots.{IsSpot, key, end_key}
use Rattle.mt_cells.proofs.lines.Lines.next.Given as goal

abbrev pub invariant-loop-self : goal.invariant-loop-self
invariant-loop-self l = record {
  bounds : l.self.bounds ≡ l.fn.self.bounds;
  rules : l.self.rules ≡ l.fn.self.rules;
  cell : l.self.cell ≡ l.fn.self.cell;
  later : key l.fn.self.stage l.fn.self.m l.fn.self.depth ≤ key l.self.stage l.self.m l.self.depth;
  passed : (g : Stage) (m d s : ℕ) → IsSpot l.fn.self.bounds l.fn.self.rules l.fn.self.cell g m d s → key l.fn.self.stage l.fn.self.m l.fn.self.depth ≤ key g m d → key l.self.stage l.self.m l.self.depth ≤ key g m d;
}

abbrev pub decreases-loop-self : goal.decreases-loop-self
decreases-loop-self l = end_key - key l.self.stage l.self.m l.self.depth
