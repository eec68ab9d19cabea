use Rattle.mt_service.proofs.OneLemmas.{comes, comes_one}
use Rattle.mt_service.specs.Laws.{place_of}
use Rattle.mt_service.proofs.laws.one_step.Goals as goal

pub returns : goal.returns
returns c = λ b rules E text o p M N x y l m.
    comes_one b E text (c.one_reading.ensures.import text) (c.one_event.ensures.withdrawal text) (c.one_event.ensures.kind text) (c.one_event.ensures.either text)
    (place_of o) (place_of p) M N (comes b E text rules o M x l) (comes b E text rules p N y m)
