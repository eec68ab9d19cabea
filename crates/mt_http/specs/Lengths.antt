-- The values of Content-Length, one after another. Internal: a reader need not believe this.
use Rattle.std.specs.Prelude.{ℕ, ◌==◌, codes, List, Option, Some, None, Result, Ok, Err, if◌then◌else◌}
use Rattle.std.specs.Str.Parse.{digits_value}
use Rattle.mt_http.specs.declared.wire.Refusal.{Refusal}
use Rattle.mt_http.specs.declared.wire.Refusal.TheVariants as refusal
use Rattle.mt_http.specs.Fields.{Field, is_same, is_length_text}

-- the number of 1 to 19 decimal digits
abbrev pub length_of : List ℕ → Option ℕ
length_of text = if is_length_text text then Some (digits_value 10 text) else None

-- the number that was found, if it is the same
abbrev pub same_number : Option ℕ → ℕ → Result ℕ Refusal
same_number None n = Ok n
same_number (Some m) n = if n == m then Ok m else Err refusal.BadRequest

abbrev pub agreed_with : Option ℕ → Option ℕ → Result ℕ Refusal
agreed_with found (Some n) = same_number found n
agreed_with found None = Err refusal.BadRequest

-- the number behind one more value
abbrev pub agreed_on : Option ℕ → List ℕ → Result ℕ Refusal
agreed_on found value = agreed_with found (length_of value)

abbrev pub found_now : Result ℕ Refusal → Result (Option ℕ) Refusal
found_now (Ok n) = Ok (Some n)
found_now (Err e) = Err e

-- the number behind one more field
abbrev pub next_found : Option ℕ → Field → Result (Option ℕ) Refusal
next_found found f = if is_same f.0 (codes "content-length") then found_now (agreed_on found f.1) else Ok found
