use Rattle.std.proofs.Common.{rules}
use Rattle.mt_publish.specs.declared.role.Role.TheVariants.{Spent}
use Rattle.mt_publish.proofs.StepLemmas.{sitting, beginning}
use Rattle.mt_publish.proofs.viewer.Viewer.seat.Goals as goal

pub load_new_seat-requires : goal.load_new_seat-requires
load_new_seat-requires g c = (search rules, sitting _ _ _ Spent (search rules))

pub join_seat-requires : goal.join_seat-requires
join_seat-requires g c = (search rules, search rules, search rules, search rules, beginning _ _ _ _ _)
