-- What a worker did, and how workers ended together.
use Rattle.std.specs.Prelude.{◌≡◌, ◌≢◌, ◌↔◌, ℕ, ◌+◌, ◌-◌, ◌<◌, ◌≤◌, List, All, length, slice_index_or}
use Rattle.mt_io.specs.Faults.{Rose}
use Rattle.mt_server.specs.declared.workers.WorkerEnd.{WorkerEnd}
use Rattle.mt_server.specs.declared.workers.WorkerEnd.TheVariants as worker
use Rattle.mt_server.specs.declared.workers.ServeEnd.{ServeEnd}
use Rattle.mt_server.specs.declared.workers.ServeEnd.TheVariants as serve

-- how many connections were left to a worker, how many its acceptor accepted, and how often that failed: each is before and then after
pub record Worked (left left' accepted accepted' faults faults' : ℕ) (end' : WorkerEnd) : Type 0 where
  -- as many fewer are left as were accepted
  pub fell : left' + accepted' ≡ left + accepted
  pub later : accepted ≤ accepted'
  -- it served all of them, or its acceptor failed
  pub served : (end' ≡ worker.Served) ↔ (left' ≡ 0)
  pub fault : left' ≢ 0 → end' ≡ worker.AcceptFault
  pub ended : end' ≢ worker.Ready
  pub cause : end' ≡ worker.AcceptFault → Rose faults faults'

-- all workers served, or this one is the first whose acceptor failed, counted from 1
module _ {W : Type 0} (end_of : W → WorkerEnd) where
  abbrev pub AreServed : List W → ServeEnd → Type 0
  AreServed workers serve.Served = All (λ w. end_of w ≡ worker.Served) workers
  AreServed workers (serve.AcceptFault n) =
      (0 < n) × (n ≤ length workers) × ((d : W) → end_of (slice_index_or workers (n - 1) d) ≡ worker.AcceptFault)
      × ((i : ℕ) (d : W) → i < n - 1 → end_of (slice_index_or workers i d) ≡ worker.Served)
