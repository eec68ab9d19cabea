-- The source line, which says where the system comes from.
use Rattle.std.specs.Prelude.{◌≡◌, ℕ, ◌<◌, List, [], ◌∷◌, ◌++◌, length, slice_index, codes, true}
use Rattle.mt_system.specs.Notes.{IsNote}
use Rattle.mt_import.specs.Lines.{is_blank, from_word, trimmed}

-- behind leading blanks the line begins as a source line does
abbrev pub StartsSource : List ℕ → Type 0
StartsSource line = (rest : List ℕ) × (from_word line ≡ codes "source" ++ rest)

-- `source`, one or more blanks and a note, with blanks allowed before and behind
pub record IsSourceLine (line note : List ℕ) : Type 0 where
  pub rest : List ℕ
  pub line_is : from_word line ≡ codes "source" ++ rest
  pub blank : is_blank (slice_index rest 0) ≡ true
  pub note_is : note ≡ trimmed rest
  pub some : 0 < length note
  pub form : IsNote note

-- the line begins as a source line and is none
abbrev pub IsBadSource : List ℕ → Type 0
IsBadSource line = StartsSource line × ((note : List ℕ) → ¬ IsSourceLine line note)

-- the first of these lines is missing or begins otherwise
abbrev pub NoSource : List (List ℕ) → Type 0
NoSource [] = Unit {0}
NoSource (line ∷ lines) = ¬ StartsSource line

-- these lines are the one source line, which has this note, or there is none, nor a note, and the lines behind begin
-- otherwise
abbrev pub IsSource : List (List ℕ) → List ℕ → List (List ℕ) → Type 0
IsSource [] note behind = (note ≡ []) × NoSource behind
IsSource (line ∷ []) note behind = IsSourceLine line note
IsSource (line ∷ other ∷ lines) note behind = ⊥
