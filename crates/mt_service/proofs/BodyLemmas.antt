-- Names are ASCII, and no number of an outcome is a float.
use Rattle.std.proofs.Common.{◌≡◌, ℕ, ◌+◌, ◌<◌, List, [], ◌∷◌, ◌++◌, length, map, take, get_or, false, All, Contains, refl, sym, subst, ap, ap₂, ◌∙◌, ◌||◌}
use Rattle.std.specs.Prelude.{Result, MatchResult, IsUtf8, Ok, Err}
use Rattle.std.specs.Result.{IsOk}
use Rattle.std.proofs.Math.Dec.{ltb}
use Rattle.std.proofs.lemmas.Bool.{ltb-true}
use Rattle.std.proofs.lemmas.List.{map-append, take_more}
use Rattle.std.proofs.lemmas.List.Elements.{All-contains, All-weaker}
use Rattle.std.proofs.lemmas.List.Sums.{AllPass-from_list_all}
use Rattle.std.proofs.lemmas.Str.{IsUtf8-from_ascii}
use Rattle.std.proofs.lemmas.Str.Ascii.{IsAscii-from_all}
use Rattle.serde_json.specs.View.{view, items_of}
use Rattle.serde_json.specs.Written.{has_float, items_have_float}
use Rattle.serde_json.specs.declared.value.Value.{Value}
use Rattle.mt_system.specs.Claims.{IsName, name_characters}
use Rattle.mt_import.specs.declared.refusals.FormRefused.{FormRefused}
use Rattle.mt_import.specs.declared.refusals.FormRefused.TheVariants.{TooLong, Line}
use Rattle.mt_service.specs.Bodies.{natural, dependent_data, form_data, outcome_data}
use Rattle.mt_service.specs.declared.outcomes.Outcome.{Outcome}
use Rattle.mt_service.specs.declared.outcomes.Outcome.TheVariants as outcome

low_characters : All (λ b. b < 128) name_characters
low_characters k d l = ltb-true _ 128 (AllPass-from_list_all (λ b. ltb b 128) name_characters refl k d l)

name_utf8 : (name : List ℕ) → IsName name → IsUtf8 name
name_utf8 name is_name =
    IsUtf8-from_ascii name (IsAscii-from_all name
    (All-weaker (λ b. Contains name_characters b) (λ b. b < 128) (λ b h. All-contains (λ c. c < 128) name_characters b low_characters h) name is_name.characters))

pub reads_name : {T E : Type 0} (r : Result T E) (P : T → Type 0) (Q : E → Type 0) (name bytes : List ℕ) → IsName name → bytes ≡ name → MatchResult r P (λ e. (¬ (IsUtf8 bytes)) × Q e) → IsOk r
reads_name (Ok x) P Q name bytes is_name e shown = refl
reads_name (Err x) P Q name bytes is_name e shown = absurd (shown.0 (subst IsUtf8 (sym e) (name_utf8 name is_name)))

-- one more of the first numbers
pub number_step : (numbers : List ℕ) (place none : ℕ) (values : List Value) (value : Value) → place < length numbers → map view values ≡ map natural (take place numbers)
    → view value ≡ natural (get_or numbers place none) → map view (values ++ value ∷ []) ≡ map natural (take (place + 1) numbers)
number_step numbers place none values value l before e =
    map-append view values (value ∷ []) ∙ ap₂ (λ z w. z ++ w ∷ []) before e
    ∙ sym (map-append natural (take place numbers) (get_or numbers place none ∷ [])) ∙ ap (map natural) (sym (take_more numbers place none l))

naturals_whole : (ns : List ℕ) → items_have_float (items_of (map natural ns)) ≡ false
naturals_whole [] = refl
naturals_whole (n ∷ ns) = naturals_whole ns

dependent_whole : (part : ℕ) (choice coefficients : List ℕ) → has_float (dependent_data part choice coefficients) ≡ false
dependent_whole part choice coefficients = ap₂ (λ x y. x || (y || false)) (naturals_whole choice) (naturals_whole coefficients)

form_whole : (refused : FormRefused) → has_float (form_data refused) ≡ false
form_whole TooLong = refl
form_whole (Line n wanted) = refl

pub outcome_whole : (o : Outcome) → has_float (outcome_data o) ≡ false
outcome_whole (outcome.Form refused) = form_whole refused
outcome_whole (outcome.NoImport name) = refl
outcome_whole (outcome.AlreadyWithdrawn n name) = refl
outcome_whole (outcome.Range name number limit) = refl
outcome_whole (outcome.TooManyChoices count) = refl
outcome_whole (outcome.Already n name) = refl
outcome_whole (outcome.IsWithdrawn n name) = refl
outcome_whole (outcome.NameTaken n name) = refl
outcome_whole outcome.Full = refl
outcome_whole (outcome.Dependent form part choice coefficients) = dependent_whole part choice coefficients.digits
outcome_whole outcome.KeeperFault = refl
outcome_whole outcome.Memory = refl
outcome_whole (outcome.Accepted n name raised tried) = refl
outcome_whole (outcome.Withdrawn n name lowered tried) = refl
