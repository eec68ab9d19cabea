use Rattle.std.proofs.Common.{◌*◌, ap}
use Rattle.mt_cells.proofs.Triangles.{triangle_half}
use Rattle.mt_cells.proofs.bounds.Bounds.arrays_below.Goals as goal

pub returns-clause-value : goal.returns-clause-value
returns-clause-value c = ap (λ n. c.args.self.s_max * n) (triangle_half c.args.m c.requires.low)
