-- Which cell a question asks for, and what of it is outside the bounds.
use Rattle.std.specs.Prelude.{◌≡◌, ℕ, ◌≤◌, Option, None, Some, IfSome, MatchOption, unwrap_or}
use Rattle.mt_linear.specs.declared.order.Order.{Order}
use Rattle.mt_linear.specs.Field.{number_of}
use Rattle.mt_cells.specs.declared.bounds.Bounds.{Bounds}
use Rattle.mt_cells.specs.declared.cells.Cell.{Cell}
use Rattle.mt_cells.specs.declared.cells.Cell.TheVariants as cell
use Rattle.mt_cells.specs.declared.asks.Kind.{Kind}
use Rattle.mt_cells.specs.declared.asks.Kind.TheVariants.{Net, Oa, Ooa, Seq}
use Rattle.mt_cells.specs.declared.asks.Ask.{Ask}
use Rattle.mt_cells.specs.declared.asks.Part.{Part}
use Rattle.mt_cells.specs.declared.asks.Part.TheVariants as part
use Rattle.mt_cells.specs.declared.asks.Question.{Question}
use Rattle.mt_cells.specs.declared.asks.Question.TheVariants.{Value, Tree, Matrix, Table, LeastM, Version, Export}
use Rattle.mt_cells.specs.declared.sizes.Sizes.{Sizes}
use Rattle.mt_cells.specs.Cells.{InBounds}

-- a net is an array of depth m, an orthogonal array one of depth 1
abbrev pub cell_by : Kind → Order → Ask → Cell
cell_by Net o a = cell.Ooa o a.m a.s a.m
cell_by Oa o a = cell.Ooa o a.m a.s 1
cell_by Ooa o a = cell.Ooa o a.m a.s a.depth
cell_by Seq o a = cell.Seq o a.m a.s

pub record IsAsked (b : Bounds) (a : Ask) (c : Cell) : Type 0 where
  pub order : Order
  pub q : number_of order ≡ a.q
  pub cell_is : c ≡ cell_by a.kind order a
  pub inside : InBounds b c

-- a number is from 1 to a limit
abbrev pub IsFrom1 : ℕ → ℕ → Type 0
IsFrom1 limit n = (1 ≤ n) × (n ≤ limit)

abbrev pub IsOrder : ℕ → Type 0
IsOrder q = (o : Order) × (number_of o ≡ q)

-- ---- what is outside the bounds

-- the greatest depth of a cell with the columns that are looked at
abbrev pub most_rows : Bounds → Sizes → ℕ
most_rows b a = unwrap_or a.m b.m_max

-- the sizes are those of a cell within the bounds
pub record AreInside (b : Bounds) (a : Sizes) : Type 0 where
  pub order : IsOrder a.q
  pub m : IfSome a.m (IsFrom1 b.m_max)
  pub s : IfSome a.s (IsFrom1 b.s_max)
  pub depth : IfSome a.depth (IsFrom1 (most_rows b a))

-- the first of q, m, s and depth that no cell of the bounds has
abbrev pub AreOutside : Bounds → Sizes → Part → ℕ → Type 0
AreOutside b a part.Q number = (number ≡ a.q) × ¬ IsOrder a.q
AreOutside b a part.M number = (Some number ≡ a.m) × IsOrder a.q × ¬ IsFrom1 b.m_max number
AreOutside b a part.S number = (Some number ≡ a.s) × IsOrder a.q × IfSome a.m (IsFrom1 b.m_max) × ¬ IsFrom1 b.s_max number
AreOutside b a part.Depth number = (Some number ≡ a.depth) × IsOrder a.q × IfSome a.m (IsFrom1 b.m_max) × IfSome a.s (IsFrom1 b.s_max) × ¬ IsFrom1 (most_rows b a) number

-- depth is looked at for kind ooa alone
abbrev pub asked_depth : Kind → ℕ → Option ℕ
asked_depth Ooa depth = Some depth
asked_depth kind depth = None

abbrev pub ask_sizes : Ask → Sizes
ask_sizes a = record { q = a.q; m = Some a.m; s = Some a.s; depth = asked_depth a.kind a.depth }

-- what a question looks at
abbrev pub sizes_of : Question → Option Sizes
sizes_of (Value a) = Some (ask_sizes a)
sizes_of (Tree a) = Some (ask_sizes a)
sizes_of (Matrix a) = Some (ask_sizes a)
sizes_of (Table q m) = Some (record { q = q; m = Some m; s = None; depth = None })
sizes_of (LeastM q s k) = Some (record { q = q; m = None; s = Some s; depth = None })
sizes_of Version = None
sizes_of Export = None

-- all that is looked at is inside
abbrev pub IsInside : Bounds → Option Sizes → Type 0
IsInside b looked_at = IfSome looked_at (AreInside b)

-- the first that is outside
abbrev pub IsOutside : Bounds → Option Sizes → Part → ℕ → Type 0
IsOutside b looked_at name number = MatchOption looked_at ⊥ (λ a. AreOutside b a name number)
