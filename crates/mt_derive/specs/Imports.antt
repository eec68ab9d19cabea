-- Accepted imports, as the cells of a table see them.
use Rattle.std.specs.Prelude.{◌≡◌, ◌≢◌, ℕ, ◌-◌, ◌*◌, ◌≤◌, List, take, All}
use Rattle.mt_system.specs.declared.claims.Form.{Form}
use Rattle.mt_system.specs.declared.claims.Form.TheVariants as form
use Rattle.mt_system.specs.Rows.{Matrices}
use Rattle.mt_system.specs.Claims.{IsClaim}
use Rattle.mt_system.specs.Statements.{Statement}
use Rattle.mt_strength.specs.Statements.{Holds}
use Rattle.mt_cells.specs.declared.bounds.Bounds.{Bounds}
use Rattle.mt_cells.specs.declared.cells.Cell.{Cell}
use Rattle.mt_cells.specs.declared.cells.Cell.TheVariants.{Ooa, Seq}
use Rattle.mt_derive.specs.declared.events.Event.{Event}
use Rattle.mt_derive.specs.Places.{IsAt}

-- the cell of a claim of this form; a net is an array whose depth is its number of columns
abbrev pub cell_by : Form → Matrices → Cell
cell_by form.Ooa a = Ooa a.order a.columns a.coordinates a.depth
cell_by form.Net a = Ooa a.order a.columns a.coordinates a.depth
cell_by form.Seq a = Seq a.order a.columns a.coordinates

-- claims that fit their systems and hold
abbrev pub AllHold : List Statement → Type 0
AllHold L = All (λ c. IsClaim c.form c.k c.system × Holds c) L

-- import n, counted from 1, is c
abbrev pub IsImport : List Statement → ℕ → Statement → Type 0
IsImport L n c = (1 ≤ n) × IsAt L (n - 1) c

-- no claim has the name
abbrev pub LacksName : List Statement → List ℕ → Type 0
LacksName L name = All (λ c. c.name ≢ name) L

-- import n is the first with the name
pub record IsNamed (L : List Statement) (name : List ℕ) (n : ℕ) : Type 0 where
  pub claim : Statement
  pub place : IsImport L n claim
  pub named : claim.name ≡ name
  pub first : LacksName (take (n - 1) L) name

-- what contracts see of `Imports`
pub record ImportList : Type 0 where
  pub bounds : Bounds
  pub events : List Event

-- how many digits an import in the bounds may have
abbrev pub digits_of : Bounds → ℕ
digits_of b = b.s_max * b.m_max * b.m_max
