-- Lists of events: imports of claims, and withdrawals of imports by their number, counted from 1.
use Rattle.std.specs.Prelude.{ℕ, suc, ◌<◌, ◌≤◌, ◌==◌, Bool, false, not, IsTrue, List, [], ◌∷◌, length, take}
use Rattle.std.specs.List.{list_any}
use Rattle.mt_system.specs.Statements.{Statement}
use Rattle.mt_cells.specs.declared.bounds.Bounds.{Bounds}
use Rattle.mt_cells.specs.Cells.{InBounds}
use Rattle.mt_derive.specs.declared.events.Event.{Event}
use Rattle.mt_derive.specs.declared.events.Event.TheVariants.{Import, Withdraw}
use Rattle.mt_derive.specs.declared.imports.TheConstants.{MOST_IMPORTS}
use Rattle.mt_derive.specs.Imports.{cell_by, LacksName}
use Rattle.mt_derive.specs.Places.{IsAt}
use Rattle.mt_derive.specs.Trees.{Entry}

-- the imports' claims, in their order
abbrev pub imports_of : List Event → List Statement
imports_of [] = []
imports_of (Import c ∷ E) = c ∷ imports_of E
imports_of (Withdraw n ∷ E) = imports_of E

-- whether the event withdraws import n
abbrev pub withdraws : ℕ → Event → Bool
withdraws n (Import c) = false
withdraws n (Withdraw i) = n == i

-- whether no event withdraws import n
abbrev pub is_live : List Event → ℕ → Bool
is_live E n = not (list_any (withdraws n) E)

-- import n is there, and no event withdraws it
abbrev pub IsLive : List Event → ℕ → Type 0
IsLive E n = (1 ≤ n) × (n ≤ length (imports_of E)) × IsTrue (is_live E n)

-- what import n says, and whether it is live
abbrev pub entry_of : List Event → ℕ → Statement → Entry
entry_of E n c = record { cell = cell_by c.form c.system; k = c.k; live = is_live E n }

-- the same of each from number n on
abbrev pub entries_from : List Event → ℕ → List Statement → List Entry
entries_from E n [] = []
entries_from E n (c ∷ L) = entry_of E n c ∷ entries_from E (suc n) L

abbrev pub entries_of : List Event → List Entry
entries_of E = entries_from E 1 (imports_of E)

-- ---- lists as they grow

-- the event may come after these: an import in the bounds, of a new name, where there is room; or a withdrawal of a live import
abbrev pub Follows : Bounds → List Event → Event → Type 0
Follows b E (Import c) =
    (length (imports_of E) < MOST_IMPORTS) × InBounds b (cell_by c.form c.system) × LacksName (imports_of E) c.name
Follows b E (Withdraw n) = IsLive E n

-- each event may come after those before it
abbrev pub AllFollow : Bounds → List Event → Type 0
AllFollow b E = (n : ℕ) (e : Event) → IsAt E n e → Follows b (take n E) e
