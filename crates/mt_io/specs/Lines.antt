-- What an acceptor in memory is seen as, and what one call does to it.
use Rattle.std.specs.Prelude.{◌≡◌, ℕ, ◌+◌, List, [], ◌∷◌, Result, Ok, Err}
use Rattle.mt_io.specs.Counts.{next_fault}
use Rattle.mt_io.specs.declared.links.MemoryLink.{MemoryLink}

-- the links that are left, and how many lines and faults there were
pub record MemoryAcceptorState : Type 0 where
  pub links : List MemoryLink
  pub accepted : ℕ
  pub faults : ℕ

-- one call: it gives the first link that is left, and fails where none is
abbrev pub IsMemoryAccept : {E : Type 0} → MemoryAcceptorState → MemoryAcceptorState → Result MemoryLink E → Type 0
IsMemoryAccept old new (Ok link) = (old.links ≡ link ∷ new.links) × (new.accepted ≡ old.accepted + 1) × (new.faults ≡ old.faults)
IsMemoryAccept old new (Err _) = (old.links ≡ []) × (new ≡ record old { faults = next_fault old.faults })
