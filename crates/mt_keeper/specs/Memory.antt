-- What a keeper in memory is seen as, and what one load and one put do to it.
use Rattle.std.specs.Prelude.{◌≡◌, ℕ, List, [], ◌∷◌, ◌++◌, Contains, Result, Ok, Err}
use Rattle.mt_io.specs.Counts.{next_call, next_fault}
use Rattle.mt_keeper.specs.declared.refusals.KeeperRefused.{KeeperRefused}
use Rattle.mt_keeper.specs.declared.refusals.KeeperRefused.TheVariants.{Fault, Memory}

-- the records, the numbers of the calls that fail, and how many calls and faults there were
pub record MemoryKeeperState : Type 0 where
  pub records : List (List ℕ)
  pub failing : List ℕ
  pub calls : ℕ
  pub faults : ℕ

-- this call passes, and leaves these records
pub record Passes (old new : MemoryKeeperState) (records : List (List ℕ)) : Type 0 where
  pub passes : ¬ Contains old.failing (next_call old.calls)
  pub keeper : new ≡ record old { records = records; calls = next_call old.calls }

-- this call fails, and leaves the records
pub record Fails (old new : MemoryKeeperState) : Type 0 where
  pub fails : Contains old.failing (next_call old.calls)
  pub keeper : new ≡ record old { calls = next_call old.calls; faults = next_fault old.faults }

-- one load, by its result
abbrev pub IsMemoryLoad : MemoryKeeperState → MemoryKeeperState → Result (List (List ℕ)) KeeperRefused → Type 0
IsMemoryLoad old new (Ok records) = Passes old new old.records × (records ≡ old.records)
IsMemoryLoad old new (Err Fault) = Fails old new
IsMemoryLoad old new (Err Memory) = Passes old new old.records

-- one put, by its result
abbrev pub IsMemoryPut : {T : Type 0} → MemoryKeeperState → MemoryKeeperState → Result T KeeperRefused → List ℕ → Type 0
IsMemoryPut old new (Ok _) text = Passes old new (old.records ++ text ∷ [])
IsMemoryPut old new (Err Fault) text = Fails old new
IsMemoryPut old new (Err Memory) text = Passes old new old.records
