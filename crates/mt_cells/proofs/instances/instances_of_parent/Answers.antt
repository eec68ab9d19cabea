use Rattle.std.proofs.Common.{arith, ◌≤◌}
use Rattle.mt_cells.specs.declared.lines.Stage.TheVariants.{Single}
use Rattle.mt_cells.specs.declared.rules.Rule.TheVariants.{Fewer}
use Rattle.mt_cells.specs.Spots.{key}
use Rattle.mt_cells.proofs.ListedLemmas.{is_listing_of}
use Rattle.mt_cells.proofs.instances.instances_of_parent.Goals as goal

pub returns : goal.returns
returns c =
    let of = c.lines_of_parent.ensures in
    let position = c.lines_of_parent.result.position in
    is_listing_of c.args.bounds c.args.rules c.args.cell c.lines_of_parent.result record { stage = Single Fewer; m = 0; depth = 0; first = 1; last = 0; skip = 0 } 1 of.bounds of.rules of.cell c.requires (omega arith)
    (λ h n e t p. let first : key c.lines_of_parent.result.stage c.lines_of_parent.result.m c.lines_of_parent.result.depth ≤ key h n e = of.first h n e t p in omega arith)
