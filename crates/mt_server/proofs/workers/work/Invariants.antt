use Rattle.std.proofs.Common.{◌≡◌, ◌≤◌, ◌+◌}
use Rattle.mt_server.proofs.workers.work.Given as goal

abbrev pub invariant-loop-worker : goal.invariant-loop-worker
invariant-loop-worker g l =
    (l.worker.viewer.publication ≡ l.initial.worker.viewer.publication)
    × (l.worker.left + g.A.Acceptor.accepted l.worker.acceptor ≡ l.initial.worker.left + g.A.Acceptor.accepted l.initial.worker.acceptor)
    × (g.A.Acceptor.accepted l.initial.worker.acceptor ≤ g.A.Acceptor.accepted l.worker.acceptor)
    × (g.A.Acceptor.faults l.initial.worker.acceptor ≤ g.A.Acceptor.faults l.worker.acceptor)

abbrev pub decreases-loop-worker : goal.decreases-loop-worker
decreases-loop-worker g l = l.worker.left
