use Rattle.std.proofs.Common.{◌≡◌, All, length}
use Rattle.mt_publish.specs.States.{IsNew}
use Rattle.mt_publish.proofs.publisher.seated.Given as goal

abbrev pub invariant-loop-i : goal.invariant-loop-i
invariant-loop-i g l = (length l.viewers.items ≡ l.i)
    × (l.publisher ≡ l.initial.publisher)
    × All (IsNew l.initial.publisher.publication) l.viewers.items
