use Rattle.std.proofs.Common.{◌≡◌, ◌<◌, ℕ, slice_index_or}
use Rattle.mt_server.specs.declared.workers.WorkerEnd.TheVariants as worker
use Rattle.mt_server.proofs.workers.first_fault.Given as goal

abbrev pub invariant-loop-i : goal.invariant-loop-i
invariant-loop-i g l = (k : ℕ) (d : _) → k < l.i → (slice_index_or l.workers.items k d).end ≡ worker.Served
