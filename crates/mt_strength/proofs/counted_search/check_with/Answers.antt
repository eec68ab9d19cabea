use Rattle.mt_strength.proofs.RowLemmas.{IsVerdict-answer}
use Rattle.mt_strength.proofs.counted_search.check_with.Goals as goal

pub returns-clause-verdict : goal.returns-clause-verdict
returns-clause-verdict g c =
    IsVerdict-answer c.args.system.now c.args.k c.m.result c.depth.result c.counted_first_dependent.result c.m.ensures.value c.depth.ensures c.counted_first_dependent.ensures.verdict
