use Rattle.mt_derive.proofs.BuildLemmas.{system_found}
use Rattle.mt_derive.proofs.node_system.system_at.Goals as goal

pub returns : goal.returns
returns c = system_found _ _ c.in-Some.place _ _ c.index-systems-place.is c.in-Some.ensures.0 c.in-Some.ensures.1
