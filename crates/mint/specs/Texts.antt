-- The texts that the program writes. Each ends with a line feed.
use Rattle.std.specs.Prelude.{ℕ, List, [], ◌∷◌, ◌++◌, codes}
use Rattle.mt_system.specs.declared.claims.Form.TheVariants.{Seq}
use Rattle.mt_system.specs.Rows.{Matrices}
use Rattle.mt_import.specs.Canonical.{canonical_text}

abbrev pub usage_text : List ℕ
usage_text = codes "usage: mint STORE FEED M,S COMMAND\n"

-- the line for a claim of this name that holds
abbrev pub holds_text : List ℕ → List ℕ
holds_text name = codes "holds " ++ name ++ 10 ∷ []

-- the import text of the system under the name `niederreiter`, with the sequence strength u
abbrev pub sequence_text : ℕ → Matrices → List ℕ
sequence_text u system = canonical_text (record { form = Seq; name = codes "niederreiter"; note = []; k = u; system = system })
