-- A text has one reading.
use Rattle.std.specs.Prelude.{◌≡◌, ℕ, List}
use Rattle.mt_import.specs.declared.headers.Header.{Header}
use Rattle.mt_import.specs.declared.refusals.FormRefused.{FormRefused}
use Rattle.mt_import.specs.Texts.{IsImport, IsRefusal}

-- it has one header, one note and one list of digits
abbrev pub HasOneImport : List ℕ → Type 0
HasOneImport text = (g h : Header) (note other ds es : List ℕ) → IsImport text g note ds → IsImport text h other es → (g ≡ h) × (note ≡ other) × (ds ≡ es)

-- an import text is not refused
abbrev pub IsNotBoth : List ℕ → Type 0
IsNotBoth text = (h : Header) (note digits : List ℕ) (refused : FormRefused) → IsImport text h note digits → ¬ IsRefusal text refused

-- a text is refused for one cause, at one line
abbrev pub HasOneRefusal : List ℕ → Type 0
HasOneRefusal text = (r s : FormRefused) → IsRefusal text r → IsRefusal text s → r ≡ s
