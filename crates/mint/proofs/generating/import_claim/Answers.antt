use Rattle.mint.proofs.ChainLemmas.{told_none}
use Rattle.mint.proofs.generating.import_claim.Goals as goal

pub returns-in_err-text-clause-told : goal.returns-in_err-text-clause-told
returns-in_err-text-clause-told g c = told_none c.args.service.now.bounds c.args.service.now.rules _ _ c.args.service.now.events c.args.feeds.now.items
