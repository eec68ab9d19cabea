-- Forms of claims in words.
use Rattle.std.specs.Prelude.{ℕ, List, codes}
use Rattle.mt_system.specs.declared.claims.Form.{Form}
use Rattle.mt_system.specs.declared.claims.Form.TheVariants.{Ooa, Net, Seq}

abbrev pub form_word : Form → List ℕ
form_word Ooa = codes "ooa"
form_word Net = codes "net"
form_word Seq = codes "seq"
