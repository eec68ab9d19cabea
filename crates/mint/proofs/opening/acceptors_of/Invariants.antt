use Rattle.std.proofs.Common.{◌≡◌, length}
use Rattle.mint.proofs.opening.acceptors_of.Given as goal

-- so many acceptors so far
abbrev pub invariant-loop-worker : goal.invariant-loop-worker
invariant-loop-worker l = length l.acceptors.items ≡ l._worker
