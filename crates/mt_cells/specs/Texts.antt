-- The texts of kinds, parts of questions, cells and rules.
use Rattle.std.specs.Prelude.{ℕ, List, ◌∷◌, ◌++◌, codes, decimal}
use Rattle.mt_linear.specs.Field.{number_of}
use Rattle.mt_cells.specs.declared.asks.Kind.{Kind}
use Rattle.mt_cells.specs.declared.asks.Kind.TheVariants.{Net, Oa, Ooa, Seq}
use Rattle.mt_cells.specs.declared.asks.Part.{Part}
use Rattle.mt_cells.specs.declared.asks.Part.TheVariants.{Q, M, S, Depth}
use Rattle.mt_cells.specs.declared.cells.Cell.{Cell}
use Rattle.mt_cells.specs.declared.cells.Cell.TheVariants as cell
use Rattle.mt_cells.specs.declared.rules.Rule.{Rule}
use Rattle.mt_cells.specs.declared.rules.Rule.TheVariants.{Fewer, Shallower, Deeper, Longer, QuotientKeep, QuotientDrop, SeqFewer, SeqCut, SeqToNet, Product, Uuv}

abbrev pub kind_text : Kind → List ℕ
kind_text Net = codes "net"
kind_text Oa = codes "oa"
kind_text Ooa = codes "ooa"
kind_text Seq = codes "seq"

abbrev pub part_text : Part → List ℕ
part_text Q = codes "q"
part_text M = codes "m"
part_text S = codes "s"
part_text Depth = codes "depth"

-- `outside: NAME NUMBER`
abbrev pub outside_text : Part → ℕ → List ℕ
outside_text name number = codes "outside: " ++ part_text name ++ 32 ∷ decimal number

-- `ooa Q M S DEPTH` or `seq Q M S`
abbrev pub cell_text : Cell → List ℕ
cell_text (cell.Ooa o m s depth) =
    kind_text Ooa ++ 32 ∷ decimal (number_of o) ++ 32 ∷ decimal m ++ 32 ∷ decimal s ++ 32 ∷ decimal depth
cell_text (cell.Seq o m s) = kind_text Seq ++ 32 ∷ decimal (number_of o) ++ 32 ∷ decimal m ++ 32 ∷ decimal s

abbrev pub rule_text : Rule → List ℕ
rule_text Fewer = codes "fewer"
rule_text Shallower = codes "shallower"
rule_text Deeper = codes "deeper"
rule_text Longer = codes "longer"
rule_text QuotientKeep = codes "quotient_keep"
rule_text QuotientDrop = codes "quotient_drop"
rule_text SeqFewer = codes "seq_fewer"
rule_text SeqCut = codes "seq_cut"
rule_text SeqToNet = codes "seq_to_net"
rule_text Product = codes "product"
rule_text Uuv = codes "uuv"
