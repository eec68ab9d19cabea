-- The lines that tell what comes of a text, and why records are refused. Each ends with a line feed.
use Rattle.std.specs.Prelude.{ℕ, List, [], ◌∷◌, ◌++◌, map, codes, decimal}
use Rattle.std.specs.List.{join_with_byte}
use Rattle.mt_system.specs.declared.claims.Form.{Form}
use Rattle.mt_system.specs.declared.claims.Form.TheVariants.{Seq}
use Rattle.mt_import.specs.declared.import_text.TheConstants.{MOST_BYTES}
use Rattle.mt_import.specs.declared.refusals.FormRefused.{FormRefused}
use Rattle.mt_import.specs.declared.refusals.FormRefused.TheVariants.{TooLong, Line}
use Rattle.mt_import.specs.declared.refusals.Wanted.{Wanted}
use Rattle.mt_import.specs.declared.refusals.Wanted.TheVariants.{Header, Source, Row, Blank}
use Rattle.mt_cells.specs.Texts.{part_text}
use Rattle.mt_service.specs.declared.gate.TheConstants.{MOST_CHOICES}
use Rattle.mt_service.specs.declared.outcomes.Outcome.{Outcome}
use Rattle.mt_service.specs.declared.outcomes.Outcome.TheVariants as outcome
use Rattle.mt_service.specs.declared.opening.Why.{Why}
use Rattle.mt_service.specs.declared.opening.Why.TheVariants as why
use Rattle.mt_service.specs.declared.opening.OpenRefused.{OpenRefused}
use Rattle.mt_service.specs.declared.opening.OpenRefused.TheVariants as refused
use Rattle.mt_derive.specs.declared.imports.TheConstants.{MOST_IMPORTS, MOST_EVENTS}

-- what a refused line is not
abbrev pub wanted_text : Wanted → List ℕ
wanted_text Header = codes " is no header\n"
wanted_text Source = codes " is no source\n"
wanted_text Row = codes " is no row\n"
wanted_text Blank = codes " is not blank\n"

abbrev pub form_text : FormRefused → List ℕ
form_text TooLong = codes "refused: more than " ++ decimal MOST_BYTES ++ codes " bytes\n"
form_text (Line line wanted) = codes "refused: line " ++ decimal line ++ wanted_text wanted

-- decimal numbers with commas between them
abbrev pub comma_list : List ℕ → List ℕ
comma_list numbers = join_with_byte 44 (map decimal numbers)

-- the part of a sequence that fails
abbrev pub failing_part : Form → ℕ → List ℕ
failing_part Seq part = codes "part " ++ decimal part ++ codes " "
failing_part form part = []

-- the number of an import and its name
abbrev pub import_text : ℕ → List ℕ → List ℕ
import_text n name = decimal n ++ 32 ∷ name

-- the line for what comes of a text; none for the keeper's fault and want of memory
abbrev pub outcome_text : Outcome → List ℕ
outcome_text (outcome.Form refused) = form_text refused
outcome_text (outcome.NoImport name) = codes "refused: no import " ++ name ++ 10 ∷ []
outcome_text (outcome.AlreadyWithdrawn n name) = codes "already withdrawn " ++ import_text n name ++ 10 ∷ []
outcome_text (outcome.Range name number limit) =
    codes "refused: " ++ part_text name ++ 32 ∷ decimal number ++ codes " is over " ++ decimal limit ++ 10 ∷ []
outcome_text (outcome.TooManyChoices count) =
    codes "refused: " ++ decimal count ++ codes " choices, more than " ++ decimal MOST_CHOICES ++ 10 ∷ []
outcome_text (outcome.Already n name) = codes "already " ++ import_text n name ++ 10 ∷ []
outcome_text (outcome.IsWithdrawn n name) = codes "refused: import " ++ import_text n name ++ codes " is withdrawn\n"
outcome_text (outcome.NameTaken n name) = codes "refused: name " ++ name ++ codes " is taken by import " ++ decimal n ++ 10 ∷ []
outcome_text outcome.Full = codes "refused: full at " ++ decimal MOST_IMPORTS ++ codes " imports\n"
outcome_text (outcome.Dependent form part choice coefficients) =
    codes "refused: " ++ failing_part form part ++ codes "choice " ++ comma_list choice ++ codes " depends with " ++ comma_list coefficients.digits ++ 10 ∷ []
outcome_text outcome.KeeperFault = []
outcome_text outcome.Memory = []
outcome_text (outcome.Accepted n name raised tried) = codes "accepted " ++ import_text n name ++ codes ": raised " ++ decimal raised ++ 10 ∷ []
outcome_text (outcome.Withdrawn n name lowered tried) = codes "withdrawn " ++ import_text n name ++ codes ": lowered " ++ decimal lowered ++ 10 ∷ []

abbrev pub why_text : Why → List ℕ
why_text why.Form = codes "form"
why_text why.Unknown = codes "unknown"
why_text why.Withdrawn = codes "withdrawn"
why_text why.Range = codes "range"
why_text why.Choices = codes "choices"
why_text why.Name = codes "name"
why_text why.Full = codes "full"
why_text why.Dependent = codes "dependent"

-- the line for why records are refused; none for the keeper's fault and want of memory
abbrev pub open_text : OpenRefused → List ℕ
open_text (refused.TooMany n) = codes "store: " ++ decimal n ++ codes " records, more than " ++ decimal MOST_EVENTS ++ 10 ∷ []
open_text (refused.BadRecord n w) = codes "store: record " ++ decimal n ++ codes ": " ++ why_text w ++ 10 ∷ []
open_text r = []
