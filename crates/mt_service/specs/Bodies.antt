-- What comes of a text, as JSON data. Keys stand in byte order.
use Rattle.std.specs.Prelude.{ℕ, List, [], ◌∷◌, map, codes}
use Rattle.serde_json.specs.Data.{Data, number, unsigned, string, array, object, Members, no_members, member}
use Rattle.serde_json.specs.View.{items_of}
use Rattle.mt_import.specs.declared.import_text.TheConstants.{MOST_BYTES}
use Rattle.mt_import.specs.declared.refusals.FormRefused.{FormRefused}
use Rattle.mt_import.specs.declared.refusals.FormRefused.TheVariants.{TooLong, Line}
use Rattle.mt_import.specs.declared.refusals.Wanted.{Wanted}
use Rattle.mt_import.specs.declared.refusals.Wanted.TheVariants.{Header, Source, Row, Blank}
use Rattle.mt_cells.specs.Texts.{part_text}
use Rattle.mt_derive.specs.declared.imports.TheConstants.{MOST_IMPORTS}
use Rattle.mt_service.specs.declared.gate.TheConstants.{MOST_CHOICES}
use Rattle.mt_service.specs.declared.outcomes.Outcome.{Outcome}
use Rattle.mt_service.specs.declared.outcomes.Outcome.TheVariants as outcome

abbrev pub natural : ℕ → Data
natural n = number (unsigned n)

-- keys and what they have
abbrev pub members : List (List ℕ × Data) → Members
members [] = no_members
members (m ∷ ms) = member m.0 m.1 (members ms)

abbrev pub naturals : List ℕ → Data
naturals ns = array (items_of (map natural ns))

-- what a refused line was to be
abbrev pub wanted_word : Wanted → List ℕ
wanted_word Header = codes "header"
wanted_word Source = codes "source"
wanted_word Row = codes "row"
wanted_word Blank = codes "blank"

abbrev pub form_data : FormRefused → Data
form_data TooLong = object (members (
    (codes "error", string (codes "form"))
    ∷ (codes "limit", natural MOST_BYTES)
    ∷ []))
form_data (Line line wanted) = object (members (
    (codes "error", string (codes "form"))
    ∷ (codes "line", natural line)
    ∷ (codes "wanted", string (wanted_word wanted))
    ∷ []))

-- import n of this name, with what became of it
abbrev pub import_data : ℕ → List ℕ → List ℕ → Data
import_data n name word = object (members (
    (codes "import", natural n)
    ∷ (codes "name", string name)
    ∷ (codes "outcome", string word)
    ∷ []))

-- an error that import n of this name is the reason for
abbrev pub conflict_data : List ℕ → ℕ → List ℕ → Data
conflict_data word n name = object (members (
    (codes "error", string word)
    ∷ (codes "import", natural n)
    ∷ (codes "name", string name)
    ∷ []))

abbrev pub error_data : List ℕ → Data
error_data word = object (members ((codes "error", string word) ∷ []))

-- import n of this name is accepted, and so many values changed
abbrev pub accepted_data : ℕ → List ℕ → ℕ → Data
accepted_data n name raised = object (members (
    (codes "import", natural n)
    ∷ (codes "name", string name)
    ∷ (codes "outcome", string (codes "accepted"))
    ∷ (codes "raised", natural raised)
    ∷ []))

abbrev pub withdrawn_data : ℕ → List ℕ → ℕ → Data
withdrawn_data n name lowered = object (members (
    (codes "import", natural n)
    ∷ (codes "lowered", natural lowered)
    ∷ (codes "name", string name)
    ∷ (codes "outcome", string (codes "withdrawn"))
    ∷ []))

-- the first dependent choice, in this part, and its combination to zero
abbrev pub dependent_data : ℕ → List ℕ → List ℕ → Data
dependent_data part choice coefficients = object (members (
    (codes "choice", naturals choice)
    ∷ (codes "coefficients", naturals coefficients)
    ∷ (codes "error", string (codes "dependent"))
    ∷ (codes "part", natural part)
    ∷ []))

abbrev pub outcome_data : Outcome → Data
outcome_data (outcome.Form refused) = form_data refused
outcome_data (outcome.NoImport name) = object (members (
    (codes "error", string (codes "no import"))
    ∷ (codes "name", string name)
    ∷ []))
outcome_data (outcome.AlreadyWithdrawn n name) = import_data n name (codes "already withdrawn")
outcome_data (outcome.Range name n limit) = object (members (
    (codes "error", string (codes "range"))
    ∷ (codes "limit", natural limit)
    ∷ (codes "name", string (part_text name))
    ∷ (codes "number", natural n)
    ∷ []))
outcome_data (outcome.TooManyChoices count) = object (members (
    (codes "error", string (codes "choices"))
    ∷ (codes "limit", natural MOST_CHOICES)
    ∷ (codes "number", natural count)
    ∷ []))
outcome_data (outcome.Already n name) = import_data n name (codes "already")
outcome_data (outcome.IsWithdrawn n name) = conflict_data (codes "withdrawn") n name
outcome_data (outcome.NameTaken n name) = conflict_data (codes "name taken") n name
outcome_data outcome.Full = object (members (
    (codes "error", string (codes "full"))
    ∷ (codes "limit", natural MOST_IMPORTS)
    ∷ []))
outcome_data (outcome.Dependent form part choice coefficients) = dependent_data part choice coefficients.digits
outcome_data outcome.KeeperFault = error_data (codes "keeper")
outcome_data outcome.Memory = error_data (codes "memory")
outcome_data (outcome.Accepted n name raised tried) = accepted_data n name raised
outcome_data (outcome.Withdrawn n name lowered tried) = withdrawn_data n name lowered
