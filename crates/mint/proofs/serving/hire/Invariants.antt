use Rattle.std.proofs.Common.{◌≡◌, ◌≤◌, ◌+◌, ◌++◌, All, map, vec_len, vec_capacity}
use Rattle.mt_publish.specs.States.{Publication}
use Rattle.mt_table.specs.declared.published.Base.{Base}
use Rattle.mint.proofs.serving.hire.Given as goal

abbrev pub invariant-loop-acceptors : goal.invariant-loop-acceptors
invariant-loop-acceptors g l =
    (map (λ w. w.acceptor) l.workers.items ++ l.acceptors.items ≡ l.initial.acceptors.items)
    × (vec_len l.viewers ≡ vec_len l.acceptors)
    × (vec_len l.workers + vec_len l.acceptors ≤ vec_capacity l.workers)
    × All (λ w. w.left ≡ l.connections) l.workers.items
    × ((p : Publication Base) → All (λ v. v.publication ≡ p) l.initial.viewers.items
    → All (λ v. v.publication ≡ p) l.viewers.items × All (λ w. w.viewer.publication ≡ p) l.workers.items)

abbrev pub decreases-loop-acceptors : goal.decreases-loop-acceptors
decreases-loop-acceptors g l = vec_len l.acceptors
