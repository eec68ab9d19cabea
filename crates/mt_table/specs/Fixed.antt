-- Internal: a reader need not believe this.
-- The fixed point of a table.
use Rattle.std.specs.Prelude.{ℕ, ◌+◌, ◌<◌, ◌≤◌, IsTrue, List, length, get_or}
use Rattle.mt_cells.specs.declared.bounds.Bounds.{Bounds}
use Rattle.mt_cells.specs.declared.cells.Cell.{Cell}
use Rattle.mt_cells.specs.declared.rules.RuleSet.{RuleSet}
use Rattle.mt_cells.specs.Cells.{InBounds, columns_of, number, cells_of}
use Rattle.mt_derive.specs.declared.events.Event.{Event}
use Rattle.mt_derive.specs.Events.{IsLive, entries_of}
use Rattle.mt_derive.specs.Trees.{Axiom, Says, Entry, entry_at}
use Rattle.mt_derive.specs.Values.{AreValues, IsSince}
use Rattle.mt_table.specs.declared.work.Work.{Work}
use Rattle.mt_table.specs.Starts.{StartsWithAxioms}
use Rattle.mt_table.specs.Works.{values_of, value_in, AllShown, AllDone, IsIdle}

-- the axioms hold, and the live imports before number n; every instance is done, no cell waits, and the nodes conclude what they show
pub record StandsOn (w : Work) (L : List Entry) (n : ℕ) : Type 0 where
  pub axioms : StartsWithAxioms w.bounds w.nodes.list (cells_of w.bounds)
  pub held : (x : Axiom) (c : Cell) (k : ℕ) → InBounds w.bounds c → Says x c k → k ≤ value_in w c
  pub imports : (j : ℕ) → 1 ≤ j → j < n → IsTrue (entry_at L j).live → (entry_at L j).k ≤ value_in w (entry_at L j).cell
  pub done : AllDone w
  pub shown : AllShown w L
  pub idle : IsIdle w

-- so do all live imports, and the values are the greatest over the list
pub record IsFixed (w : Work) (L : List Entry) : Type 0 where
  pub stands : StandsOn w L (length L + 1)
  pub values : AreValues w.bounds w.rules L (values_of w)

-- what the live imports say is of cells in the bounds, and not over their columns
abbrev pub LiveFit : Bounds → List Event → Type 0
LiveFit b E =
    (n : ℕ) → IsLive E n
    → InBounds b (entry_at (entries_of E) n).cell × ((entry_at (entries_of E) n).k ≤ columns_of (entry_at (entries_of E) n).cell)

-- the last events at which the cells' values changed, by number
abbrev pub AreSinces : Bounds → RuleSet → List Event → List ℕ → Type 0
AreSinces b rules E sinces = (c : Cell) → InBounds b c → IsSince b rules E c (get_or sinces (number b c) 0)
