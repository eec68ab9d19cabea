-- The first dependent choice, by size and then by list.
use Rattle.std.specs.Prelude.{ℕ, ◌-◌, ◌≤◌, List, sum}
use Rattle.mt_linear.specs.declared.order.Order.{Order}
use Rattle.mt_system.specs.Rows.{Matrices, rows_by, part_rows}
use Rattle.mt_strength.specs.Searches.{AllIndependent, IsFound, AreIndependent, IsFirstBySize}

-- found among the choices of as many rows, where each choice of fewer rows is independent
pub record IsLeastFound (o : Order) (R : List ℕ → List (List ℕ)) (others each k : ℕ) (c : List ℕ) : Type 0 where
  pub found : IsFound o R each others each (sum c) c
  pub size : sum c ≤ k
  pub lesser : AllIndependent o R each others each (sum c - 1)

-- each choice of at most k rows is independent, where each coordinate has depth rows of width digits
abbrev pub AllChoicesIndependent : Matrices → ℕ → ℕ → ℕ → Type 0
AllChoicesIndependent a width depth k = AreIndependent a.order a.coordinates depth k (rows_by (part_rows a width))

-- this is the first that is not
abbrev pub IsFirstChoice : Matrices → ℕ → ℕ → ℕ → List ℕ → Type 0
IsFirstChoice a width depth k c = IsFirstBySize a.order a.coordinates depth k (rows_by (part_rows a width)) c
