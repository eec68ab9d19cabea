-- What several reads take.
use Rattle.std.proofs.Common.{ℕ, List, [], ◌++◌, take, ap, ◌∙◌, sym, append_assoc, Ok}
use Rattle.std.specs.Prelude.{Option, None, Some}
use Rattle.mt_io.specs.Streams.{Takes}
use Rattle.mt_io.specs.Told.{Keeps}

pub Keeps-more : (E : Type 0) (x y z : Option (List ℕ)) (text : List ℕ) (n : ℕ) (buffer : List ℕ)
    → Keeps [] x text y → Takes {E = E} y z (Ok n) buffer → Keeps [] x (text ++ take n buffer) z
Keeps-more E None None None text n buffer keeps takes = tt
Keeps-more E None None (Some c) text n buffer keeps takes = absurd takes
Keeps-more E None (Some a) z text n buffer keeps takes = absurd keeps
Keeps-more E (Some b) None None text n buffer keeps takes = tt
Keeps-more E (Some b) None (Some c) text n buffer keeps takes = absurd takes
Keeps-more E (Some b) (Some a) None text n buffer keeps takes = tt
Keeps-more E (Some b) (Some a) (Some c) text n buffer keeps takes =
    keeps ∙ ap (λ (xs : List ℕ). text ++ xs) takes.prefix ∙ sym (append_assoc text (take n buffer) c)
