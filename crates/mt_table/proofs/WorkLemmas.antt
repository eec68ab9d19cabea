-- What raising a value keeps.
use Rattle.std.proofs.Common.{◌≡◌, ℕ, suc, ◌+◌, ◌-◌, ◌*◌, ◌<◌, ◌≤◌, ◌≢◌, ◌⊎◌, ⊎_elim, inl, inr, Bool, true, false, cond, Option, Some, None, List, [], ◌∷◌, length, get_or, refl, sym, ap, ◌∙◌, arith, le_trans, get_or-set_same, get_or-set_other}
use Rattle.std.proofs.Math.ListN.{set}
use Rattle.std.proofs.lemmas.Bool.{cases_eq}
use Rattle.std.proofs.lemmas.List.Sums.{sum_by-set, sum_by-cons}
use Rattle.mt_cells.specs.declared.bounds.TheConstants.{MOST_COLUMNS}
use Rattle.mt_cells.specs.declared.cells.Cell.{Cell}
use Rattle.mt_cells.specs.declared.instances.Instance.{Instance}
use Rattle.mt_cells.specs.Cells.{InBounds, number, cells_of}
use Rattle.mt_cells.specs.Instances.{IsInstance, HasParent, conclusion_of}
use Rattle.mt_cells.specs.Instances.{second_or}
use Rattle.mt_derive.specs.Closed.{second_of, IsDone}
use Rattle.mt_derive.specs.Trees.{Entry}
use Rattle.mt_derive.specs.declared.nodes.Node.{Node}
use Rattle.mt_cells.proofs.CellLemmas.{number_below, number_apart}
use Rattle.mt_cells.proofs.SpotLemmas.{inside}
use Rattle.mt_derive.proofs.ConcludedLemmas.{conclude_push, place_longer}
use Rattle.mt_table.specs.declared.work.Work.{Work}
use Rattle.mt_table.specs.Shapes.{sum_of}
use Rattle.mt_table.specs.Needs.{IsNeeded}
use Rattle.mt_table.specs.Works.{value_in, AllShown, AllDone, IsFlagged, IsIdle, IsPropagated, AllPropagated, waiting, Grows, node_by, IsPut, AllStay, IsRaised, IsTaken, IsOver, Rises, Propagates}
use Rattle.mt_table.proofs.NeedLemmas.{all_done}
use Rattle.mt_table.proofs.NodeLemmas.{node_concludes}

-- ---- growth

pub grows_trans : (u v w : Work) → Grows u v → Grows v w → Grows u w
grows_trans u v w a b = record {
  bounds = b.bounds ∙ a.bounds;
  rules = b.rules ∙ a.rules;
  values = λ n. le_trans (a.values n) (b.values n);
  flags = λ n h. b.flags n (a.flags n h);
  changed = λ n. ⊎_elim
      (λ (e : get_or w.values.items n 0 ≡ get_or v.values.items n 0). ⊎_elim
      (λ (f : get_or v.values.items n 0 ≡ get_or u.values.items n 0). inl (e ∙ f))
      (λ (f : get_or v.flags.items n false ≡ true). inr (b.flags n f))
      (a.changed n))
      (λ (e : get_or w.flags.items n false ≡ true). inr e)
      (b.changed n);
  rise = omega (arith, a.rise, b.rise);
  nodes = λ n node at. b.nodes n node (a.nodes n node at);
  shown = λ L h. b.shown L (a.shown L h);
}

-- a propagated instance stays propagated
pub propagated_grows : (v w : Work) (i : Instance) → Grows v w → IsPropagated v i → IsPropagated w i
propagated_grows v w i g (inl d) = rw g.bounds (⊎_elim
    (λ (e : get_or w.values.items (number v.bounds i.first) 0 ≡ value_in v i.first). ⊎_elim
    (λ (f : get_or w.values.items (number v.bounds (second_of i)) 0 ≡ value_in v (second_of i)). inl (rw (e, f) (le_trans d (g.values (number v.bounds i.target)))))
    (λ (f : get_or w.flags.items (number v.bounds (second_of i)) false ≡ true). inr (inr f))
    (g.changed (number v.bounds (second_of i))))
    (λ (e : get_or w.flags.items (number v.bounds i.first) false ≡ true). inr (inl e))
    (g.changed (number v.bounds i.first)))
propagated_grows v w i g (inr (inl f)) = rw g.bounds (inr (inl (g.flags _ f)))
propagated_grows v w i g (inr (inr f)) = rw g.bounds (inr (inr (g.flags _ f)))

-- ---- a raise

values_low : (w : Work) (c : Cell) → InBounds w.bounds c → number w.bounds c < length w.values.items
values_low w c h = rw w.shaped.0 (number_below w.bounds c h)

flags_low : (w : Work) (c : Cell) → InBounds w.bounds c → number w.bounds c < length w.flags.items
flags_low w c h = rw w.shaped.1 (number_below w.bounds c h)

put_value : (v w : Work) (node : Node) → InBounds v.bounds node.cell → IsPut v w node → get_or w.values.items (number v.bounds node.cell) 0 ≡ node.k
put_value v w node h r = rw r.values (get_or-set_same v.values.items (number v.bounds node.cell) node.k 0 (values_low v node.cell h))

put_other : (v w : Work) (node : Node) (n : ℕ) → IsPut v w node → n ≢ number v.bounds node.cell → get_or w.values.items n 0 ≡ get_or v.values.items n 0
put_other v w node n r ne = rw r.values (get_or-set_other v.values.items (number v.bounds node.cell) n node.k 0 ne)

put_flag : (v w : Work) (node : Node) → InBounds v.bounds node.cell → IsPut v w node → get_or w.flags.items (number v.bounds node.cell) false ≡ true
put_flag v w node h r = rw r.flags (get_or-set_same v.flags.items (number v.bounds node.cell) true false (flags_low v node.cell h))

pub put_values : (v w : Work) (node : Node) → InBounds v.bounds node.cell → value_in v node.cell < node.k → IsPut v w node → (n : ℕ) → get_or v.values.items n 0 ≤ get_or w.values.items n 0
put_values v w node h l r n = ⊎_elim
    (λ (e : n ≡ number v.bounds node.cell). rw (e, put_value v w node h r) (omega arith))
    (λ (ne : n ≢ number v.bounds node.cell). rw (put_other v w node n r ne) (omega arith))
    (cases_eq n (number v.bounds node.cell))

pub put_held : (v w : Work) (node : Node) → InBounds v.bounds node.cell → IsPut v w node → node.k ≤ value_in w node.cell
put_held v w node h r = rw (r.bounds, put_value v w node h r) (omega arith)

pub put_stays : (v w : Work) (node : Node) → IsPut v w node → AllStay v.nodes.list w.nodes.list
put_stays v w node r n x at = rw r.nodes (place_longer v.nodes.list (node ∷ []) n x at)

-- an instance that was done is propagated where a value rose
pub propagated_put : (v w : Work) (node : Node) (i : Instance) → InBounds v.bounds node.cell → value_in v node.cell < node.k → IsPut v w node → IsDone (value_in v) i → IsPropagated w i
propagated_put v w node i h l r d = rw r.bounds (⊎_elim
    (λ (e : number v.bounds i.first ≡ number v.bounds node.cell). inr (inl (rw e (put_flag v w node h r))))
    (λ (ne : number v.bounds i.first ≢ number v.bounds node.cell). ⊎_elim
    (λ (e : number v.bounds (second_of i) ≡ number v.bounds node.cell). inr (inr (rw e (put_flag v w node h r))))
    (λ (me : number v.bounds (second_of i) ≢ number v.bounds node.cell). inl (rw (put_other v w node (number v.bounds i.first) r ne, put_other v w node (number v.bounds (second_of i)) r me) (le_trans d (put_values v w node h l r (number v.bounds i.target)))))
    (cases_eq (number v.bounds (second_of i)) (number v.bounds node.cell)))
    (cases_eq (number v.bounds i.first) (number v.bounds node.cell)))

raised_value : (v w : Work) (i : Instance) (k : ℕ) → InBounds v.bounds i.target → IsRaised v w i k → get_or w.values.items (number v.bounds i.target) 0 ≡ k
raised_value v w i k h r = put_value v w (node_by v i k) h r

other_value : (v w : Work) (i : Instance) (k n : ℕ) → IsRaised v w i k → n ≢ number v.bounds i.target → get_or w.values.items n 0 ≡ get_or v.values.items n 0
other_value v w i k n r ne = put_other v w (node_by v i k) n r ne

raised_flag : (v w : Work) (i : Instance) (k : ℕ) → InBounds v.bounds i.target → IsRaised v w i k → get_or w.flags.items (number v.bounds i.target) false ≡ true
raised_flag v w i k h r = put_flag v w (node_by v i k) h r

other_flag : (v w : Work) (i : Instance) (k n : ℕ) → IsRaised v w i k → n ≢ number v.bounds i.target → get_or w.flags.items n false ≡ get_or v.flags.items n false
other_flag v w i k n r ne = rw r.flags (get_or-set_other v.flags.items (number v.bounds i.target) n true false ne)

raised_rise : (v w : Work) (i : Instance) (k : ℕ) → InBounds v.bounds i.target → value_in v i.target < k → IsRaised v w i k → sum_of v.values.items + waiting w.flags.items ≤ sum_of w.values.items + waiting v.flags.items
raised_rise v w i k h l r =
    let n : ℕ = number v.bounds i.target in
    let p : sum_of (set v.values.items n k) + get_or v.values.items n 0 ≡ sum_of v.values.items + k = sum_by-set (λ v. v) v.values.items n k 0 (values_low v i.target h) in
    let q : waiting (set v.flags.items n true) + cond (get_or v.flags.items n false) 1 0 ≡ waiting v.flags.items + 1 = sum_by-set (λ f. cond f 1 0) v.flags.items n true false (flags_low v i.target h) in
    rw (r.values, r.flags) (omega arith)

-- the new node concludes what the instance does
raised_shown : (v w : Work) (i : Instance) (k : ℕ) → IsInstance v.bounds v.rules i → k ≡ conclusion_of i (value_in v i.first) (value_in v (second_of i)) → 0 < k → IsRaised v w i k → (L : List Entry) → AllShown v L → AllShown w L
raised_shown v w i k h e l r L all = rw (r.bounds, r.rules, r.nodes) (conclude_push v.bounds v.rules L v.nodes.list (node_by v i k) all (node_concludes v i k h e l L all))

pub grows_raised : (v w : Work) (i : Instance) (j g k : ℕ) → IsInstance v.bounds v.rules i → j ≡ value_in v i.first → g ≡ value_in v (second_of i) → k ≡ conclusion_of i j g → value_in v i.target < k → IsRaised v w i k → Grows v w
grows_raised v w i j g k h ej eg ek l r = record {
  bounds = r.bounds;
  rules = r.rules;
  values = λ n. ⊎_elim
      (λ (e : n ≡ number v.bounds i.target). rw (e, raised_value v w i k t r) (omega arith))
      (λ (ne : n ≢ number v.bounds i.target). rw (other_value v w i k n r ne) (omega arith))
      (cases_eq n (number v.bounds i.target));
  flags = λ n f. ⊎_elim
      (λ (e : n ≡ number v.bounds i.target). rw e (raised_flag v w i k t r))
      (λ (ne : n ≢ number v.bounds i.target). other_flag v w i k n r ne ∙ f)
      (cases_eq n (number v.bounds i.target));
  changed = λ n. ⊎_elim
      (λ (e : n ≡ number v.bounds i.target). inr (rw e (raised_flag v w i k t r)))
      (λ (ne : n ≢ number v.bounds i.target). inl (other_value v w i k n r ne))
      (cases_eq n (number v.bounds i.target));
  rise = raised_rise v w i k t l r;
  nodes = put_stays v w (node_by v i k) r;
  shown = raised_shown v w i k h (rw (ej, eg) at ek) (omega arith) r;
}
  where
    t : InBounds v.bounds i.target
    t = (inside v.bounds v.rules i h).0

-- the instance that raised its target is propagated, also where the target is a parent
pub propagated_raised : (v w : Work) (i : Instance) (j g k : ℕ) → IsInstance v.bounds v.rules i → j ≡ value_in v i.first → g ≡ value_in v (second_of i) → k ≡ conclusion_of i j g → IsRaised v w i k → IsPropagated w i
propagated_raised v w i j g k h ej eg ek r = rw r.bounds (⊎_elim
    (λ (e : number v.bounds i.first ≡ number v.bounds i.target). inr (inl (rw e (raised_flag v w i k t r))))
    (λ (ne : number v.bounds i.first ≢ number v.bounds i.target). ⊎_elim
    (λ (e : number v.bounds (second_of i) ≡ number v.bounds i.target). inr (inr (rw e (raised_flag v w i k t r))))
    (λ (me : number v.bounds (second_of i) ≢ number v.bounds i.target). inl (rw (other_value v w i k (number v.bounds i.first) r ne, other_value v w i k (number v.bounds (second_of i)) r me, raised_value v w i k t r, ← ej, ← eg, ← ek) (omega arith)))
    (cases_eq (number v.bounds (second_of i)) (number v.bounds i.target)))
    (cases_eq (number v.bounds i.first) (number v.bounds i.target)))
  where
    t : InBounds v.bounds i.target
    t = (inside v.bounds v.rules i h).0

-- an instance whose conclusion is not above its target's value is done
pub propagated_low : (v : Work) (i : Instance) (j g k : ℕ) → j ≡ value_in v i.first → g ≡ value_in v (second_of i) → k ≡ conclusion_of i j g → k ≤ value_in v i.target → IsPropagated v i
propagated_low v i j g k ej eg ek l = inl (rw (ek, ej, eg) at l)

-- ---- a cell that is taken out

second_parent : (f c : Cell) (y : Option Cell) → second_or f y ≡ c → (f ≡ c) ⊎ (y ≡ Some c)
second_parent f c None e = inl e
second_parent f c (Some y) e = inr (ap (λ (x : Cell). Some x) e)

-- after a cell was taken out and all its instances were tried
pub propagated_after : (v u w : Work) (c : Cell) (n : ℕ) → IsTaken v u n → InBounds u.bounds c → number u.bounds c ≡ n → AllPropagated v → Grows u w → ((i : Instance) → IsInstance u.bounds u.rules i → HasParent c i → IsNeeded u.rules i → IsPropagated w i) → AllPropagated w
propagated_after v u w c n t h en all g tried i k x = go (all i kv (rw t.rules at xu))
  where
    ku : IsInstance u.bounds u.rules i
    ku = rw (g.bounds, g.rules) at k

    kv : IsInstance v.bounds v.rules i
    kv = rw (t.bounds, t.rules) at ku

    xu : IsNeeded u.rules i
    xu = rw g.rules at x

    still : (e : Cell) → IsFlagged v e → number u.bounds e ≢ n → IsFlagged u e
    still e f ne = rw t.flags (get_or-set_other v.flags.items n (number u.bounds e) false false ne ∙ rw t.bounds f)

    go : IsPropagated v i → IsPropagated w i
    go (inl d) = propagated_grows u w i g (inl (rw (t.bounds, t.values) d))
    go (inr (inl f)) = ⊎_elim
        (λ (e : number u.bounds i.first ≡ n). tried i ku (inl (number_apart u.bounds i.first c ku.first h (e ∙ sym en))) xu)
        (λ (ne : number u.bounds i.first ≢ n). propagated_grows u w i g (inr (inl (still i.first f ne))))
        (cases_eq (number u.bounds i.first) n)
    go (inr (inr f)) = ⊎_elim
        (λ (e : number u.bounds (second_of i) ≡ n). tried i ku (second_parent i.first c i.second (number_apart u.bounds (second_of i) c (inside u.bounds u.rules i ku).1 h (e ∙ sym en))) xu)
        (λ (ne : number u.bounds (second_of i) ≢ n). propagated_grows u w i g (inr (inr (still (second_of i) f ne))))
        (cases_eq (number u.bounds (second_of i)) n)

pub done_at_end : (w : Work) → AllPropagated w → IsIdle w → AllDone w
done_at_end w all idle = all_done w.bounds w.rules (value_in w) (λ i k x. go i (all i k x))
  where
    none : (n : ℕ) → get_or w.flags.items n false ≡ true → ⊥
    none n f = let e : get_or w.flags.items n false ≡ false = idle n in cc

    go : (i : Instance) → IsPropagated w i → IsDone (value_in w) i
    go i (inl d) = d
    go i (inr (inl f)) = absurd (none _ f)
    go i (inr (inr f)) = absurd (none _ f)

-- ---- the measure

pub sum_high : (values : List ℕ) → ((n : ℕ) → get_or values n 0 ≤ MOST_COLUMNS) → sum_of values ≤ MOST_COLUMNS * length values
sum_high [] h = omega arith
sum_high (v ∷ values) h =
    let a : sum_of values ≤ MOST_COLUMNS * length values = sum_high values (λ n. h (suc n)) in
    let q : v ≤ MOST_COLUMNS = h 0 in
    let e : sum_of (v ∷ values) ≡ v + sum_of values = sum_by-cons (λ x. x) v values in
    omega (arith, e)

pub taken_waiting : (flags : List Bool) (n : ℕ) → n < length flags → get_or flags n false ≡ true → waiting (set flags n false) + 1 ≡ waiting flags
taken_waiting flags n h e =
    let q : waiting (set flags n false) + cond (get_or flags n false) 1 0 ≡ waiting flags + 0 = sum_by-set (λ f. cond f 1 0) flags n false false h in
    let r : cond {A = ℕ} (get_or flags n false) 1 0 ≡ 1 = rw e refl in
    omega arith

abbrev pub measure : Work → ℕ
measure w = (MOST_COLUMNS * cells_of w.bounds - sum_of w.values.items) + waiting w.flags.items

pub measure_falls : (v u w : Work) (n : ℕ) → IsTaken v u n → Grows u w → measure w < measure v
measure_falls v u w n t g =
    let a : sum_of u.values.items + waiting w.flags.items ≤ sum_of w.values.items + waiting u.flags.items = g.rise in
    let b : sum_of u.values.items ≡ sum_of v.values.items = ap sum_of t.values in
    let d : waiting u.flags.items ≡ waiting (set v.flags.items n false) = ap waiting t.flags in
    let q : waiting (set v.flags.items n false) + 1 ≡ waiting v.flags.items = taken_waiting v.flags.items n (rw v.shaped.1 t.below) t.was in
    let r : sum_of w.values.items ≤ MOST_COLUMNS * length w.values.items = sum_high w.values.items w.shaped.3 in
    let s : length w.values.items ≡ cells_of w.bounds = w.shaped.0 in
    let e : cells_of w.bounds ≡ cells_of v.bounds = ap cells_of (g.bounds ∙ t.bounds) in
    omega arith

pub rises_step : (o v u w : Work) (n : ℕ) → Rises o v → IsTaken v u n → Grows u w → Rises o w
rises_step o v u w n r t g = record {
  bounds = g.bounds ∙ t.bounds ∙ r.bounds;
  rules = g.rules ∙ t.rules ∙ r.rules;
  values = λ k. le_trans (r.values k) (rw t.values at (g.values k));
  nodes = λ k node at. g.nodes k node (rw t.nodes (r.nodes k node at));
  shown = λ L h. g.shown L (rw (t.bounds, t.rules, t.nodes) (r.shown L h));
}

pub rises_refl : (v : Work) → Rises v v
rises_refl v = record { bounds = refl; rules = refl; values = λ n. omega arith; nodes = λ n node at. at; shown = λ L h. h }

-- nothing waits any more
pub propagates : (o v w : Work) → AllPropagated v → Rises o v → IsOver v w → Propagates o w
propagates o v w all r h = record {
  bounds = h.bounds ∙ r.bounds;
  rules = h.rules ∙ r.rules;
  values = λ n. rw h.values (r.values n);
  nodes = λ n node at. rw h.nodes (r.nodes n node at);
  shown = λ L k. rw (h.bounds, h.rules, h.nodes) (r.shown L k);
  done = done_at_end w (rw (h.bounds, h.rules, h.values, h.flags) all) h.idle;
  idle = h.idle;
}
