-- The cause of a keeper's refusals.
use Rattle.std.specs.Prelude.{ℕ, ◌≤◌, Result, Ok, Err}
use Rattle.mt_io.specs.Faults.{Rose}
use Rattle.mt_keeper.specs.declared.refusals.KeeperRefused.{KeeperRefused}
use Rattle.mt_keeper.specs.declared.refusals.KeeperRefused.TheVariants.{Fault, Memory}

-- P, where the result is a fault
abbrev pub OnFault : {T : Type 0} → Result T KeeperRefused → Type 0 → Type 0
OnFault (Ok _) P = Unit {0}
OnFault (Err Fault) P = P
OnFault (Err Memory) P = Unit {0}

-- the count never falls, and a fault is answered only where it rose
pub record HasKeeperCause {T : Type 0} (before now : ℕ) (result : Result T KeeperRefused) : Type 0 where
  pub later : before ≤ now
  pub fault : OnFault result (Rose before now)
