use Rattle.mint.proofs.ChainLemmas.{opened_grows}
use Rattle.mint.proofs.stores.opened.Goals as goal

pub returns-in-Ok-clause-stands : goal.returns-in-Ok-clause-stands
returns-in-Ok-clause-stands g c = let o = c.in-Ok.ensures.opening in opened_grows c.args.bounds _ _ o.0 c.in-Ok.service.events o.1 o.2
