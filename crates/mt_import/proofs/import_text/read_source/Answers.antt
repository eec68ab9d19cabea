use Rattle.std.proofs.Common.{◌∷◌, [], refl, arith}
use Rattle.mt_import.proofs.import_text.read_source.Goals as goal

pub returns-in-Found : goal.returns-in-Found
returns-in-Found c =
    let split = c.in-Some.ensures in (
      omega (arith, split.shorter),
      omega arith,
      record { source = c.in-Some.line.now ∷ []; lines = split.lines; source_is = c.in-Found.ensures; number = refl },
    )
