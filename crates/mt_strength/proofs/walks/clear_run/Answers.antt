use Rattle.std.proofs.Common.{ℕ, List, get_or, sym, ap, ◌∙◌, ◌+◌}
use Rattle.mt_strength.proofs.ByteLemmas.{row_byte}
use Rattle.mt_strength.proofs.walks.clear_run.Goals as goal

pub cleared-w-requires-clause-lane : goal.cleared-w-requires-clause-lane
cleared-w-requires-clause-lane c =
    sym (ap (λ (r : List ℕ). get_or r c.args.place 0) c.read_row.ensures ∙ row_byte c.args.rows.now (c.args.from + c.loop-j.j) c.args.place c.requires.pivot.within)
