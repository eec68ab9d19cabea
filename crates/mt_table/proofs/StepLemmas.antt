-- How many instances are tried.
use Rattle.std.proofs.Common.{◌≡◌, ℕ, zero, suc, ◌+◌, ◌-◌, ◌*◌, ◌<◌, ◌≤◌, ◌⊎◌, inl, inr, Bool, true, false, cond, List, [], ◌∷◌, length, get_or, refl, ap, ◌∙◌, arith, le_trans, add-one}
use Rattle.std.proofs.Math.ListN.{set}
use Rattle.std.proofs.Math.Nat.{mul-suc, mul-add}
use Rattle.std.proofs.lemmas.Nat.{mul-le}
use Rattle.std.proofs.lemmas.List.Sums.{sum_by-set, sum_by-cons}
use Rattle.mt_cells.specs.declared.bounds.Bounds.{Bounds}
use Rattle.mt_cells.specs.declared.bounds.TheConstants.{MOST_COLUMNS, MOST_COORDINATES, MOST_CELLS}
use Rattle.mt_cells.specs.declared.lines.Stage.{Stage}
use Rattle.mt_cells.specs.Cells.{InBounds, number}
use Rattle.mt_cells.specs.Instances.{fan_of}
use Rattle.mt_cells.specs.Spots.{key, width, IsUsed, IsPosition}
use Rattle.mt_cells.proofs.CellLemmas.{number_below, cells_high}
use Rattle.mt_cells.proofs.CountLemmas.{left, left_falls, left_high, width_fits}
use Rattle.mt_derive.specs.declared.nodes.Node.{Node}
use Rattle.mt_derive.specs.Trees.{Entry}
use Rattle.mt_derive.specs.Values.{IsScore, sum_to}
use Rattle.mt_table.specs.declared.work.Work.{Work}
use Rattle.mt_table.specs.Shapes.{sum_of}
use Rattle.mt_table.specs.Fixed.{IsFixed}
use Rattle.mt_table.specs.Works.{values_of, value_in, waiting, IsIdle, IsPut, IsTaken, IsOver, IsStart, Grows, Pays, Tries}
use Rattle.mt_table.proofs.StartLemmas.{start_waits}
use Rattle.mt_table.proofs.WorkLemmas.{sum_high, taken_waiting}

-- ---- the lines of a cell

-- so many were tried, and there are no more to try from the key on than fan leaves
pub record Spends (b : Bounds) (k tried : ℕ) : Type 0 where
  pub few : tried ≤ fan_of b
  pub rest : (g : Stage) (m d : ℕ) → IsUsed g → IsPosition b g m d → k ≤ key g m d → tried + left b g m d ≤ fan_of b

pub spends_none : (b : Bounds) (k : ℕ) → Spends b k 0
spends_none b k = record { few = omega arith; rest = λ g m d u p l. omega (arith, left_high b g m d u) }

-- one more line
pub spends_line : (b : Bounds) (k next tried count : ℕ) (g : Stage) (m d : ℕ) → IsPosition b g m d → k ≤ key g m d → key g m d < next → count ≤ width b g → (count ≡ 0) ⊎ IsUsed g
    → Spends b k tried → Spends b next (tried + count)
spends_line b k next tried count g m d p from to few (inl none) s = record {
  few = omega (arith, none, s.few);
  rest = λ h n e u q l. omega (arith, none, s.rest h n e u q (omega (arith, from, to, l)));
}
spends_line b k next tried count g m d p from to few (inr used) s =
    let here : tried + left b g m d ≤ fan_of b = s.rest g m d used p from in
    let fits : width b g ≤ left b g m d = le_trans (width_fits b g m d p) (omega arith) in
    record {
      few = omega (arith, here, fits, few);
      rest = λ h n e u q l.
          let falls : left b h n e + width b g ≤ left b g m d = left_falls b g h m d n e u p q (omega (arith, to, l)) in
          omega (arith, here, falls, few);
    }

-- ---- cells that are taken out

pub pays_refl : (v : Work) → Pays v v 0
pays_refl v = record { taken = 0; bound = omega arith; paid = omega arith }

bound_more : (f taken a c : ℕ) → a ≤ f * taken → c ≤ f → a + c ≤ f * (taken + 1)
bound_more f taken a c h k =
    let e : f * (taken + 1) ≡ f * taken + f = ap (λ n. f * n) (add-one taken) ∙ mul-suc f taken in
    omega (arith, h, k, e)

-- one more cell was taken out and tried
pub pays_step : (o v u w : Work) (n tried count : ℕ) → v.bounds ≡ o.bounds → Pays o v tried → IsTaken v u n → Grows u w → count ≤ fan_of u.bounds → Pays o w (tried + count)
pays_step o v u w n tried count e p k g h = record {
  taken = p.taken + 1;
  bound = bound_more (fan_of o.bounds) p.taken tried count p.bound (rw (k.bounds, e) at h);
  paid =
      let a : sum_of u.values.items + waiting w.flags.items ≤ sum_of w.values.items + waiting u.flags.items = g.rise in
      let b : sum_of u.values.items ≡ sum_of v.values.items = ap sum_of k.values in
      let d : waiting u.flags.items ≡ waiting (set v.flags.items n false) = ap waiting k.flags in
      let q : waiting (set v.flags.items n false) + 1 ≡ waiting v.flags.items = taken_waiting v.flags.items n (rw v.shaped.1 k.below) k.was in
      omega (arith, p.paid);
}

-- nothing was left
pub pays_over : (o v w : Work) (tried : ℕ) → Pays o v tried → IsOver v w → Pays o w tried
pays_over o v w tried p k = record { taken = p.taken; bound = p.bound; paid = rw (k.values, k.flags) p.paid }

-- ---- numbers that fit

-- at most how many instances are tried for a cell, and for all
abbrev pub most_fan : ℕ
most_fan = 8 + 4 * MOST_COORDINATES * MOST_COLUMNS * MOST_COLUMNS

pub fan_high : (b : Bounds) → fan_of b ≤ most_fan
fan_high b =
    let one : 4 * b.s_max * b.m_max ≤ 4 * MOST_COORDINATES * MOST_COLUMNS = mul-le (4 * b.s_max) b.m_max (4 * MOST_COORDINATES) MOST_COLUMNS (omega (arith, b.s_high)) b.m_high in
    let two : 4 * b.s_max * b.m_max * b.m_max ≤ 4 * MOST_COORDINATES * MOST_COLUMNS * MOST_COLUMNS = mul-le (4 * b.s_max * b.m_max) b.m_max (4 * MOST_COORDINATES * MOST_COLUMNS) MOST_COLUMNS one b.m_high in
    omega (arith, two)

flags_high : (flags : List Bool) → waiting flags ≤ length flags
flags_high [] = omega arith
flags_high (f ∷ flags) =
    let rest : waiting flags ≤ length flags = flags_high flags in
    omega (arith, rest, sum_by-cons (λ g. cond g 1 0) f flags, one f)
  where
    one : (g : Bool) → cond {A = ℕ} g 1 0 ≤ 1
    one true = omega arith
    one false = omega arith

pub score_high : (w : Work) → sum_of w.values.items ≤ MOST_COLUMNS * MOST_CELLS
score_high w = omega (arith, sum_high w.values.items w.shaped.3, w.shaped.0, cells_high w.bounds)

abbrev pub most_tried : ℕ
most_tried = most_fan * (MOST_COLUMNS * MOST_CELLS + MOST_CELLS)

pub pays_high : (o v : Work) (tried : ℕ) → Pays o v tried → tried ≤ most_tried
pays_high o v tried p =
    let taken : p.taken ≤ MOST_COLUMNS * MOST_CELLS + MOST_CELLS = omega (arith, p.paid, score_high v, flags_high o.flags.items, o.shaped.1, cells_high o.bounds) in
    le_trans p.bound (mul-le (fan_of o.bounds) p.taken most_fan (MOST_COLUMNS * MOST_CELLS + MOST_CELLS) (fan_high o.bounds) taken)

pub spent_high : (w : Work) (tried : ℕ) → tried ≤ fan_of w.bounds * sum_of w.values.items → tried ≤ most_tried
spent_high w tried h =
    le_trans h (mul-le (fan_of w.bounds) (sum_of w.values.items) most_fan (MOST_COLUMNS * MOST_CELLS + MOST_CELLS) (fan_high w.bounds) (omega (arith, score_high w)))

-- ---- an import

none_waits : (flags : List Bool) → ((n : ℕ) → get_or flags n false ≡ false) → waiting flags ≡ 0
none_waits [] h = refl
none_waits (f ∷ flags) h =
    let first : f ≡ false = h 0 in
    let rest = none_waits flags (λ n. h (suc n)) in
    let one : cond {A = ℕ} f 1 0 ≡ 0 = rw first refl in
    omega (arith, rest, one, sum_by-cons (λ g. cond g 1 0) f flags)

-- the value of one cell rose, which waits, and no cell did
put_pays : (v w : Work) (node : Node) → InBounds v.bounds node.cell → value_in v node.cell < node.k → IsIdle v → IsPut v w node
    → sum_of v.values.items + waiting w.flags.items ≤ sum_of w.values.items
put_pays v w node h l idle p =
    let n : ℕ = number v.bounds node.cell in
    let below : n < length v.values.items = rw v.shaped.0 (number_below v.bounds node.cell h) in
    let low : n < length v.flags.items = rw v.shaped.1 (number_below v.bounds node.cell h) in
    let a : sum_of (set v.values.items n node.k) + get_or v.values.items n 0 ≡ sum_of v.values.items + node.k = sum_by-set (λ x. x) v.values.items n node.k 0 below in
    let b : waiting (set v.flags.items n true) + cond (get_or v.flags.items n false) 1 0 ≡ waiting v.flags.items + 1 = sum_by-set (λ f. cond f 1 0) v.flags.items n true false low in
    let z : waiting v.flags.items ≡ 0 = none_waits v.flags.items idle in
    rw (p.values, p.flags) (omega (arith, l))

pub tries_raised : (v w x : Work) (node : Node) (tried : ℕ) → InBounds v.bounds node.cell → value_in v node.cell < node.k → IsIdle v → IsPut v w node
    → Pays w x tried → Tries v x tried
tries_raised v w x node tried h l idle p q =
    let low : sum_of v.values.items + waiting w.flags.items ≤ sum_of w.values.items = put_pays v w node h l idle p in
    let few : q.taken ≤ sum_of x.values.items - sum_of v.values.items = omega (arith, q.paid) in
    let same : fan_of w.bounds ≡ fan_of v.bounds = ap fan_of p.bounds in
    let k : fan_of v.bounds * q.taken ≤ fan_of v.bounds * (sum_of x.values.items - sum_of v.values.items) = mul-le (fan_of v.bounds) q.taken (fan_of v.bounds) (sum_of x.values.items - sum_of v.values.items) (omega arith) few in
    let bound : tried ≤ fan_of v.bounds * q.taken = rw same at q.bound in
    record {
      rise = sum_of x.values.items - sum_of v.values.items;
      score = omega (arith, q.paid);
      bound = le_trans bound k;
    }

-- ---- scores

-- from the axioms on, at most fan for each one of the score
pub start_spent : (v w : Work) (tried : ℕ) → IsStart v → w.bounds ≡ v.bounds → Pays v w tried → tried ≤ fan_of w.bounds * sum_of w.values.items
start_spent v w tried s e p =
    let few : p.taken ≤ sum_of w.values.items = omega (arith, p.paid, start_waits v s) in
    rw e (le_trans p.bound (mul-le (fan_of v.bounds) p.taken (fan_of v.bounds) (sum_of w.values.items) (omega arith) few))

pub spent_more : (v w : Work) (tried count : ℕ) → w.bounds ≡ v.bounds → tried ≤ fan_of v.bounds * sum_of v.values.items → Tries v w count → tried + count ≤ fan_of w.bounds * sum_of w.values.items
spent_more v w tried count e h t =
    let d : fan_of v.bounds * (sum_of v.values.items + t.rise) ≡ fan_of v.bounds * sum_of v.values.items + fan_of v.bounds * t.rise = mul-add (fan_of v.bounds) (sum_of v.values.items) t.rise in
    rw (e, ← t.score) (omega (arith, h, t.bound, d))

sum_shift : (n : ℕ) (f : ℕ → ℕ) → sum_to (suc n) f ≡ f 0 + sum_to n (λ k. f (suc k))
sum_shift zero f = omega arith
sum_shift (suc n) f = omega (arith, sum_shift n f)

sum_of_to : (xs : List ℕ) → sum_of xs ≡ sum_to (length xs) (λ n. get_or xs n 0)
sum_of_to [] = refl
sum_of_to (x ∷ xs) = omega (arith, sum_of_to xs, sum_by-cons (λ y. y) x xs, sum_shift (length xs) (λ n. get_or (x ∷ xs) n 0))

pub score_is : (v : Work) (L : List Entry) → IsFixed v L → IsScore v.bounds v.rules L (sum_of v.values.items)
score_is v L f = (values_of v, f.values, rw (← v.shaped.0) (sum_of_to v.values.items))
