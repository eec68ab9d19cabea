-- What a feed that keeps its changes is seen as, and what one call does to it.
use Rattle.std.specs.Prelude.{◌≡◌, ◌⊎◌, ℕ, ◌≤◌, ◌<◌, List, [], ◌∷◌, ◌++◌, length, Contains, Result, Ok, Err}
use Rattle.mt_io.specs.Counts.{next_call, next_fault}
use Rattle.mt_feed.specs.declared.Change.{Change}

-- the changes, how many it has room for, the numbers of the calls that fail, and how many calls and faults there were
pub record ListFeedState : Type 0 where
  pub kept : List Change
  pub room : ℕ
  pub failing : List ℕ
  pub calls : ℕ
  pub faults : ℕ

-- this call passes, and the change has room
pub record Keeps (old new : ListFeedState) (change : Change) : Type 0 where
  pub passes : ¬ Contains old.failing (next_call old.calls)
  pub fits : length old.kept < old.room
  pub feed : new ≡ record old { kept = old.kept ++ change ∷ []; calls = next_call old.calls }

-- this call fails, or the room is full
pub record Fails (old new : ListFeedState) : Type 0 where
  pub fails : Contains old.failing (next_call old.calls) ⊎ (old.room ≤ length old.kept)
  pub feed : new ≡ record old { calls = next_call old.calls; faults = next_fault old.faults }

-- one call, by its result
abbrev pub IsListTold : {T E : Type 0} → ListFeedState → ListFeedState → Result T E → Change → Type 0
IsListTold old new (Ok _) change = Keeps old new change
IsListTold old new (Err _) change = Fails old new
