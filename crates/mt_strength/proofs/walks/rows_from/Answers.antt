use Rattle.std.proofs.Common.{◌*◌, drop, ap, ◌∙◌}
use Rattle.mt_strength.proofs.WalkLemmas.{slice_behind}
use Rattle.mt_strength.proofs.walks.rows_from.Goals as goal

pub returns : goal.returns
returns c = slice_behind c.args.rows.now (32 * c.start.result) ∙ ap (λ n. drop (32 * n) c.args.rows.now) c.start.ensures
