-- Values of axioms and of live imports, propagated, are the greatest.
use Rattle.std.proofs.Common.{◌≡◌, ℕ, ◌+◌, ◌<◌, ◌≤◌, ⊎_elim, IsTrue, List, length, refl, ◌∙◌, arith, le_trans, add-one}
use Rattle.std.proofs.lemmas.Bool.{cases_lt}
use Rattle.mt_cells.specs.declared.cells.Cell.{Cell}
use Rattle.mt_cells.specs.Cells.{InBounds, number, cells_of}
use Rattle.mt_derive.specs.Closed.{IsClosed}
use Rattle.mt_derive.specs.Trees.{Tree, imported, Entry, entry_at, Concludes}
use Rattle.mt_derive.specs.Values.{sum_to}
use Rattle.mt_derive.specs.declared.events.Event.{Event}
use Rattle.mt_derive.specs.Events.{entries_of}
use Rattle.mt_derive.specs.declared.nodes.Node.{Node}
use Rattle.mt_derive.specs.Nodes.{IsTreeOf, import_node}
use Rattle.mt_derive.proofs.ConcludedLemmas.{conclude_push}
use Rattle.mt_derive.proofs.PlaceLemmas.{place_last}
use Rattle.mt_derive.proofs.TreeLemmas.{IsValue-closed}
use Rattle.mt_table.specs.declared.work.Work.{Work}
use Rattle.mt_table.specs.Works.{value_in, node_number_in, IsPut, IsStart, Propagates, Accepts}
use Rattle.mt_table.specs.Fixed.{StandsOn, IsFixed}
use Rattle.mt_table.specs.Tables.{IsServed}
use Rattle.mt_table.proofs.NodeLemmas.{Holds, cell_node, shown_tree, value_within}
use Rattle.mt_table.proofs.StartLemmas.{starts_stay, start_held, start_shown}
use Rattle.mt_table.proofs.WorkLemmas.{put_values, put_held, put_stays}

-- ---- an import that is accepted

pub accepts_raised : (v u w : Work) (node : Node) → InBounds v.bounds node.cell → value_in v node.cell < node.k → IsPut v u node → Propagates u w → Accepts v w node
accepts_raised v u w node h l p s = record {
  bounds = s.bounds ∙ p.bounds;
  rules = s.rules ∙ p.rules;
  values = λ n. le_trans (put_values v u node h l p n) (s.values n);
  nodes = λ n x at. s.nodes n x (put_stays v u node p n x at);
  shown = λ L n is concludes all. s.shown L (rw (p.bounds, p.rules, p.nodes) (conclude_push v.bounds v.rules L v.nodes.list node all
      (record { tree = imported n; unfolds = (node, place_last v.nodes.list node, is); concludes = concludes })));
  held = rw s.bounds (le_trans (put_held v u node h p) (s.values (number u.bounds node.cell)));
  done = s.done;
  idle = s.idle;
}

-- ---- what the values stand on

-- the axioms alone
pub start_stands : (v w : Work) (L : List Entry) → IsStart v → Propagates v w → StandsOn w L 1
start_stands v w L a s = record {
  axioms = rw s.bounds (starts_stay v.bounds v.nodes.list w.nodes.list (cells_of v.bounds) a.axioms s.nodes);
  held = λ x c k h says. rw s.bounds (le_trans (start_held v a x c k (rw s.bounds at h) says) (s.values (number v.bounds c)));
  imports = λ j l h live. absurd (omega arith);
  done = s.done;
  shown = s.shown L (start_shown v a L);
  idle = s.idle;
}

-- one more import, which is live
pub stands_accepted : (v w : Work) (L : List Entry) (n : ℕ) → StandsOn v L n → 1 ≤ n → n ≤ length L → IsTrue (entry_at L n).live → Accepts v w (import_node L n) → StandsOn w L (n + 1)
stands_accepted v w L n s from to live a = record {
  axioms = rw a.bounds (starts_stay v.bounds v.nodes.list w.nodes.list (cells_of v.bounds) s.axioms a.nodes);
  held = λ x c k h says. le_trans (s.held x c k (rw a.bounds at h) says) (risen c);
  imports = λ j l h is. ⊎_elim
      (λ (k : j < n). le_trans (s.imports j l k is) (risen (entry_at L j).cell))
      (λ (k : n ≤ j). let q : j ≡ n = omega arith in rw q a.held)
      (cases_lt j n);
  done = a.done;
  shown = a.shown L n refl ((from, to, live), refl, refl) s.shown;
  idle = a.idle;
}
  where
    risen : (c : Cell) → value_in v c ≤ value_in w c
    risen c = rw a.bounds (a.values (number v.bounds c))

-- one more import, which is not
pub stands_skipped : (v : Work) (L : List Entry) (n : ℕ) → StandsOn v L n → (IsTrue (entry_at L n).live → ⊥) → StandsOn v L (n + 1)
stands_skipped v L n s never = record {
  axioms = s.axioms;
  held = s.held;
  imports = λ j l h is. ⊎_elim
      (λ (k : j < n). s.imports j l k is)
      (λ (k : n ≤ j). let q : j ≡ n = omega arith in absurd (never (rw q at is)))
      (cases_lt j n);
  done = s.done;
  shown = s.shown;
  idle = s.idle;
}

-- the values are the greatest
pub fixed : (w : Work) (L : List Entry) → StandsOn w L (length L + 1) → IsFixed w L
fixed w L s = record {
  stands = s;
  values = λ c h. IsValue-closed w.bounds w.rules L (value_in w) closed c (reached c h).0 (reached c h).2;
}
  where
    reached : (c : Cell) → InBounds w.bounds c → (t : Tree) × IsTreeOf w.nodes.list (node_number_in w c) t × Concludes w.bounds w.rules L t c (value_in w c)
    reached c h = shown_tree w L (node_number_in w c) c (value_in w c) s.shown (cell_node w c h)

    closed : IsClosed w.bounds w.rules L (value_in w)
    closed = record { axioms = s.held; imports = λ n l h live. s.imports n l (omega arith) live; done = s.done }

-- for another record of the same fields
pub fixed_same : (v w : Work) (L : List Entry) → w.bounds ≡ v.bounds → w.rules ≡ v.rules → w.values.items ≡ v.values.items → w.flags.items ≡ v.flags.items → w.nodes.list ≡ v.nodes.list
    → IsFixed v L → IsFixed w L
fixed_same v w L eb er ev ef en f = record {
  stands = record {
    axioms = rw (eb, en) f.stands.axioms;
    held = rw (eb, ev) f.stands.held;
    imports = rw (eb, ev) f.stands.imports;
    done = rw (eb, er, ev) f.stands.done;
    shown = rw (eb, er, en) f.stands.shown;
    idle = rw ef f.stands.idle;
  };
  values = rw (eb, er, ev) f.values;
}

-- ---- answers

-- the table's node of a cell is what it should be
pub served : (w : Work) (E : List Event) (c : Cell) → IsFixed w (entries_of E) → InBounds w.bounds c
    → IsServed (record { bounds = w.bounds; rules = w.rules; events = E; nodes = w.nodes; node_numbers = w.node_numbers.items }) c (node_number_in w c)
served w E c f h =
    let x : Holds w.nodes.list (node_number_in w c) c (value_in w c) = cell_node w c h in
    record {
      node = x.0;
      place = x.1;
      cell = x.2;
      value = rw x.3 (f.values c h);
      within = rw x.3 (value_within w c h);
      concluded = f.stands.shown (node_number_in w c) x.0 x.1;
    }

pub sum_step : (f : ℕ → ℕ) (n : ℕ) → sum_to (n + 1) f ≡ sum_to n f + f n
sum_step f n = rw add-one refl
