use Rattle.std.proofs.Common.{[]}
use Rattle.mt_service.proofs.OneLemmas.{list_one}
use Rattle.mt_service.proofs.laws.one_list.Goals as goal

pub returns : goal.returns
returns c = λ b records E F x y.
    list_one c.one_reading.ensures.import c.one_event.ensures.withdrawal c.one_event.ensures.kind c.one_event.ensures.either b [] records E F x.accepted y.accepted
