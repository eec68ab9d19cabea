use Rattle.std.proofs.Common.{◌≡◌}
use Rattle.mt_publish.proofs.handing.grow_alone.Given as goal

abbrev pub invariant-loop : goal.invariant-loop
invariant-loop g l =
    (goal.iterator-loop g).can_next l.iterator' × (goal.iterator-loop g).is_finite l.iterator'
    × (l.copy ≡ l.initial.copy)
