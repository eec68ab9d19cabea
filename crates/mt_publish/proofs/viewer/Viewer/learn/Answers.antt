use Rattle.std.proofs.Common.{rules}
use Rattle.mt_publish.proofs.StepLemmas.{learning}
use Rattle.mt_publish.proofs.viewer.Viewer.learn.Goals as goal

pub join_seat-requires : goal.join_seat-requires
join_seat-requires g c = (search rules, search rules, search rules, search rules, learning _ _ _ _ _)
