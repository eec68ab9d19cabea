-- Notes.
use Rattle.std.specs.Prelude.{◌≢◌, ℕ, ◌-◌, ◌≤◌, List, length, slice_index, All}
use Rattle.mt_system.specs.declared.note.TheConstants.{MOST_NOTE_BYTES}

-- the first and the last visible character of ASCII, the first being the blank
abbrev pub space : ℕ
space = 32

abbrev pub tilde : ℕ
tilde = 126

-- at most 200 characters from space to tilde, with no space at either end
pub record IsNote (note : List ℕ) : Type 0 where
  pub few : length note ≤ MOST_NOTE_BYTES
  pub characters : All (λ b. (space ≤ b) × (b ≤ tilde)) note
  pub first : slice_index note 0 ≢ space
  pub last : slice_index note (length note - 1) ≢ space
