-- Internal: the JSON text of a value, spelled out.
use Rattle.std.specs.Prelude.{ℕ, List, [], ◌∷◌, ◌++◌, codes, decimal}
use Rattle.mt_cells.specs.Texts.{kind_text}
use Rattle.mt_cells.specs.declared.asks.Ask.{Ask}
use Rattle.mt_answer.specs.Bodies.{depth_of}

unfoldable pub asked_spelled : Ask → List ℕ
asked_spelled a =
    codes ",\"kind\":\"" ++ kind_text a.kind ++ codes "\",\"m\":" ++ decimal a.m ++ codes ",\"q\":" ++ decimal a.q ++ codes ",\"s\":" ++ decimal a.s

unfoldable pub value_spelled : Ask → ℕ → ℕ → ℕ → ℕ → List ℕ
value_spelled a k t since version =
    codes "{\"depth\":" ++ decimal (depth_of a.kind a.m a.depth) ++ codes ",\"k\":" ++ decimal k ++ asked_spelled a
    ++ codes ",\"since\":" ++ decimal since ++ codes ",\"t\":" ++ decimal t ++ codes ",\"version\":" ++ decimal version ++ 125 ∷ []
