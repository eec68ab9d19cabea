use Rattle.std.proofs.Common.{rules}
use Rattle.mt_publish.proofs.StepLemmas.{grounding}
use Rattle.mt_publish.proofs.publisher.Publisher.tell_base.Goals as goal

pub split_seat-requires : goal.split_seat-requires
split_seat-requires g c = (search rules, search rules, grounding _ _ _)
