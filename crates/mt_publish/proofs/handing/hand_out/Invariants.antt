use Rattle.std.proofs.Common.{◌≡◌, []}
use Rattle.std.specs.Arc.{arc_value}
use Rattle.mt_publish.specs.Stories.{story}
use Rattle.mt_publish.specs.declared.role.Role.TheVariants.{Handing}
use Rattle.mt_publish.proofs.handing.hand_out.Given as goal

abbrev pub invariant-loop-i : goal.invariant-loop-i
invariant-loop-i g l =
    (l.place.table_id ≡ l.initial.place.table_id) × (l.place.id ≡ l.initial.place.id) × (l.place.me ≡ (Handing (story (g.V.Growing.base (arc_value l.new)) (g.V.Growing.listed (arc_value l.new))) l.i, []))
