-- What holds of the system that each rule makes.
use Rattle.std.proofs.Common.{◌≡◌, ◌≢◌, ◌&&◌, ℕ, suc, ◌+◌, ◌-◌, ◌*◌, ◌<◌, ◌≤◌, leb, ltb, cond, min, inl, inr, List, length, slice_index, sym, ◌∙◌, subst, arith}
use Rattle.std.proofs.lemmas.Bool.{cases_lt, cases_order, leb-true, ltb-true, and_parts}
use Rattle.std.proofs.lemmas.List.{get_or_past}
use Rattle.mt_linear.specs.declared.order.Order.{Order}
use Rattle.mt_linear.specs.Field.{number_of, neg_of}
use Rattle.mt_linear.proofs.FieldLaws.{number_pos, add_lt, neg_lt}
use Rattle.mt_system.specs.Rows.{Matrices, row_of, Strength}
use Rattle.mt_system.specs.Digits.{digit_of, unit, HasDigits}
use Rattle.mt_cells.specs.declared.bounds.Bounds.{Bounds}
use Rattle.mt_cells.specs.declared.cells.Cell.{Cell}
use Rattle.mt_cells.specs.declared.cells.Cell.TheVariants.{Ooa, Seq}
use Rattle.mt_cells.specs.declared.rules.Rule.{Rule}
use Rattle.mt_cells.specs.declared.rules.Rule.TheVariants.{Fewer, Shallower, Deeper, Longer, QuotientKeep, QuotientDrop, SeqFewer, SeqCut, SeqToNet, Product, Uuv}
use Rattle.mt_cells.specs.Cells.{InBounds}
use Rattle.mt_cells.specs.Rules.{HasTarget, target, conclusion, deepened_strength, least_parent, HasPairTarget, pair_target, pair_conclusion}
use Rattle.mt_cells.proofs.RuleLemmas.{Fit, pair_rule, pair_most}
use Rattle.mt_rules_basic.specs.Rules.{IsFewer, IsPivot, modulo_first, remaining_row, IsQuotientKeep, IsQuotientDrop}
use Rattle.mt_rules_basic.proofs.RowLemmas.{fewer_strength, shallower_strength, deeper_strength, longer_strength}
use Rattle.mt_rules_basic.proofs.QuotientLemmas.{keep_strength, drop_strength}
use Rattle.mt_rules_basic.proofs.SequenceLemmas.{fewer_sequence, cut_sequence, net_strength}
use Rattle.mt_rules_pair.specs.Pairs.{deepened, beside, zeros, product_digit, uuv_digit}
use Rattle.mt_rules_pair.proofs.PairLemmas.{product_strength, uuv_strength}
use Rattle.mt_derive.specs.Systems.{IsWhole, IsSized, IsRuleSystem, IsPairSystem}
use Rattle.mt_derive.specs.Ready.{IsReady, FitTogether, IsPairReady}
use Rattle.mt_derive.proofs.FormulaLemmas.{cond_in, cond_at, unit_in, AreSizes, whole_from_digits}
use Rattle.mt_derive.proofs.WithinLemmas.{IsWithin, from_parts, row_elements, digit_in, same_system}
use Rattle.mt_derive.proofs.ReadyLemmas.{search, whole_row}

-- ---- its system is one of the target

-- a rule's system is one of its target
pub rule_within : (b : Bounds) (r : Rule) (c : Cell) (k : ℕ) (p a : Matrices) → HasTarget b r c → IsWhole p → IsRuleSystem r p a → IsWithin c p k
    → IsWithin (target r c) a (conclusion r c k)
rule_within b Fewer (Ooa o m s depth) k p a leads whole made parent =
    let z : IsSized (Ooa o m s depth) p = parent.has.sized in
    from_parts (Ooa o m (s - 1) depth) a k
    (made.order ∙ z.0, made.columns ∙ z.1, omega (arith, made.coordinates, z.2), made.depth ∙ z.3)
    (fewer_strength p a k made parent.has.value) (omega (arith, parent.within, made.columns))
rule_within b Shallower (Ooa o m s depth) k p a leads whole made parent =
    let z : IsSized (Ooa o m s depth) p = parent.has.sized in
    from_parts (Ooa o m s (depth - 1)) a k
    (made.order ∙ z.0, made.columns ∙ z.1, made.coordinates ∙ z.2, omega (arith, made.depth, z.3))
    (shallower_strength p a k made parent.has.value) (omega (arith, parent.within, made.columns))
rule_within b Deeper (Ooa o m s depth) k p a leads whole made parent =
    let z : IsSized (Ooa o m s depth) p = parent.has.sized in
    from_parts (Ooa o m s (depth + 1)) a (min k depth)
    (made.order ∙ z.0, made.columns ∙ z.1, made.coordinates ∙ z.2, omega (arith, made.depth, z.3))
    (subst (λ n. Strength a (min k n)) z.3 (deeper_strength p a k made parent.has.value)) (omega (arith, parent.within, made.columns))
rule_within b Longer (Ooa o m s depth) k p a leads whole made parent =
    let z : IsSized (Ooa o m s depth) p = parent.has.sized in
    from_parts (Ooa o (m + 1) s depth) a k
    (made.order ∙ z.0, omega (arith, made.columns, z.1), made.coordinates ∙ z.2, made.depth ∙ z.3)
    (longer_strength p a k made parent.has.value) (omega (arith, parent.within, made.columns))
rule_within b QuotientKeep (Ooa o m s depth) k p a leads whole made parent =
    let z : IsSized (Ooa o m s depth) p = parent.has.sized in
    from_parts (Ooa o (m - 1) s (depth - 1)) a (k - 1)
    (made.2.order ∙ z.0, omega (arith, made.2.columns, z.1), made.2.coordinates ∙ z.2, omega (arith, made.2.depth, z.3))
    (keep_strength p a k (row_elements p 0 0 whole.elements) made parent.has.value) (omega (arith, parent.within, made.2.columns))
rule_within b QuotientDrop (Ooa o m s depth) k p a leads whole made parent =
    let z : IsSized (Ooa o m s depth) p = parent.has.sized in
    from_parts (Ooa o (m - 1) (s - 1) depth) a (k - 1)
    (made.2.order ∙ z.0, omega (arith, made.2.columns, z.1), omega (arith, made.2.coordinates, z.2), made.2.depth ∙ z.3)
    (drop_strength p a k (row_elements p 0 0 whole.elements) made parent.has.value) (omega (arith, parent.within, made.2.columns))
rule_within b SeqFewer (Seq o m s) k p a leads whole made parent =
    let z : IsSized (Seq o m s) p = parent.has.sized in
    from_parts (Seq o m (s - 1)) a k
    (made.order ∙ z.0, made.columns ∙ z.1, omega (arith, made.coordinates, z.2), made.depth ∙ z.3)
    (fewer_sequence p a k (z.3 ∙ sym z.1) made parent.has.value) (omega (arith, parent.within, made.columns))
rule_within b SeqCut (Seq o m s) k p a leads whole made parent =
    let z : IsSized (Seq o m s) p = parent.has.sized in
    from_parts (Seq o (m - 1) s) a (k - 1)
    (made.order ∙ z.0, omega (arith, made.columns, z.1), made.coordinates ∙ z.2, omega (arith, made.depth, z.3))
    (cut_sequence p a k (z.3 ∙ sym z.1) made parent.has.value) (omega (arith, parent.within, made.columns))
rule_within b SeqToNet (Seq o m s) k p a leads whole made parent =
    let z : IsSized (Seq o m s) p = parent.has.sized in
    from_parts (Ooa o m (s + 1) m) a k
    (made.order ∙ z.0, made.columns ∙ z.1, omega (arith, made.coordinates, z.2), made.depth ∙ z.3)
    (net_strength p a k parent.within made parent.has.value) (omega (arith, parent.within, made.columns))
rule_within b r c k p a leads whole made parent = absurd cc

-- a rule's system of two parents is one of its target
pub pair_rule_within : (b : Bounds) (r : Rule) (c d : Cell) (j k : ℕ) (p q a : Matrices) → HasPairTarget b r c d → IsWhole p → IsWhole q
    → IsPairSystem r p q a → IsWithin c p j → IsWithin d q k → IsWithin (pair_target r c d) a (pair_conclusion r c d j k)
pair_rule_within b Product (Ooa o m s depth) (Ooa u n t deeper) j k p q a leads whole also made first second =
    let z : IsSized (Ooa o m s depth) p = first.has.sized in
    let w : IsSized (Ooa u n t deeper) q = second.has.sized in
    let fit = (pair_rule b Product (Ooa o m s depth) (Ooa u n t deeper) leads).1 in
    from_parts (Ooa o (m + n) (s + t) deeper) a (min (deepened_strength depth deeper j) k)
    (made.order ∙ w.0 ∙ sym fit.0, omega (arith, made.columns, z.1, w.1), omega (arith, made.coordinates, z.2, w.2), made.depth ∙ w.3)
    (subst (λ x. Strength a (min (deepened_strength x deeper j) k)) z.3
    (subst (λ x. Strength a (min (deepened_strength p.depth x j) k)) w.3
    (product_strength p q a j k (z.0 ∙ fit.0 ∙ sym w.0) made first.has.value second.has.value)))
    (omega (arith, second.within, made.columns))
pair_rule_within b Uuv (Ooa o m s depth) (Ooa u n t deeper) j k p q a leads whole also made first second =
    let z : IsSized (Ooa o m s depth) p = first.has.sized in
    let w : IsSized (Ooa u n t deeper) q = second.has.sized in
    let fit = (pair_rule b Uuv (Ooa o m s depth) (Ooa u n t deeper) leads).1 in
    from_parts (Ooa o (m + n) (s + t) deeper) a (min (2 * deepened_strength depth deeper j + 1) k)
    (made.order ∙ w.0 ∙ sym fit.0, omega (arith, made.columns, z.1, w.1), omega (arith, made.coordinates, z.2, w.2), made.depth ∙ w.3)
    (subst (λ x. Strength a (min (2 * deepened_strength x deeper j + 1) k)) z.3
    (subst (λ x. Strength a (min (2 * deepened_strength p.depth x j + 1) k)) w.3
    (uuv_strength p q a j k (z.0 ∙ fit.0 ∙ sym w.0) (omega (arith, z.2, w.2, pair_most b Uuv (Ooa o m s depth) (Ooa u n t deeper) leads)) made first.has.value second.has.value)))
    (omega (arith, second.within, made.columns))
pair_rule_within b r c d j k p q a leads whole also made first second = absurd cc

-- ---- it can be used where it has a target

-- a rule that has a target for a cell can be used on a system of the cell
pub ready : (b : Bounds) (r : Rule) (c : Cell) (k : ℕ) (p : Matrices) → InBounds b c → HasTarget b r c → least_parent r ≤ k → IsWhole p → IsWithin c p k
    → IsReady r p
ready b Fewer (Ooa o m s depth) k p inside leads least whole parent =
    let z : IsSized (Ooa o m s depth) p = parent.has.sized in let l = leb-true 2 s leads in omega (arith, z.2)
ready b Shallower (Ooa o m s depth) k p inside leads least whole parent =
    let z : IsSized (Ooa o m s depth) p = parent.has.sized in let l = leb-true 2 depth leads in omega (arith, z.3)
ready b Deeper (Ooa o m s depth) k p inside leads least whole parent =
    let z : IsSized (Ooa o m s depth) p = parent.has.sized in let l = ltb-true depth m leads in omega (arith, z.3, inside.1, b.m_high)
ready b Longer (Ooa o m s depth) k p inside leads least whole parent =
    let z : IsSized (Ooa o m s depth) p = parent.has.sized in let l = ltb-true m b.m_max leads in omega (arith, z.1, b.m_high)
ready b QuotientKeep (Ooa o m s depth) k p inside leads least whole parent =
    let z : IsSized (Ooa o m s depth) p = parent.has.sized in
    let l = and_parts (leb 2 m) (leb 2 depth) leads in
    (omega (arith, z.1, leb-true 2 m l.0), omega (arith, z.3, leb-true 2 depth l.1), whole_row p k whole least parent.has.value)
ready b QuotientDrop (Ooa o m s depth) k p inside leads least whole parent =
    let z : IsSized (Ooa o m s depth) p = parent.has.sized in
    let l = and_parts (leb 2 m) (leb 2 s && ltb depth m) leads in
    let l' = and_parts (leb 2 s) (ltb depth m) l.1 in
    (omega (arith, z.1, leb-true 2 m l.0), omega (arith, z.2, leb-true 2 s l'.0), whole_row p k whole least parent.has.value)
ready b SeqFewer (Seq o m s) k p inside leads least whole parent =
    let z : IsSized (Seq o m s) p = parent.has.sized in let l = leb-true 2 s leads in (omega (arith, z.2), z.3 ∙ sym z.1)
ready b SeqCut (Seq o m s) k p inside leads least whole parent =
    let z : IsSized (Seq o m s) p = parent.has.sized in let l = leb-true 2 m leads in (omega (arith, z.1), z.3 ∙ sym z.1)
ready b SeqToNet (Seq o m s) k p inside leads least whole parent =
    let z : IsSized (Seq o m s) p = parent.has.sized in let l = ltb-true s b.s_max leads in (omega (arith, z.2, b.s_high), z.3 ∙ sym z.1)
ready b r c k p inside leads least whole parent = absurd cc

-- systems of two cells fit where the cells do
together : (b : Bounds) (o u : Order) (m s depth n t deeper : ℕ) (p q : Matrices) → Fit b (Ooa o m s depth) (Ooa u n t deeper)
    → IsSized (Ooa o m s depth) p → IsSized (Ooa u n t deeper) q → FitTogether p q
together b o u m s depth n t deeper p q fit z w =
    (z.0 ∙ fit.0 ∙ sym w.0, omega (arith, z.3, w.3, fit.1), omega (arith, z.1, w.1, fit.2, b.m_high), omega (arith, z.2, w.2, fit.3, b.s_high))

-- a rule that has a target for two cells can be used on systems of these cells
pub pair_ready : (b : Bounds) (r : Rule) (c d : Cell) (j k : ℕ) (p q : Matrices) → HasPairTarget b r c d → IsWhole p → IsWhole q
    → IsWithin c p j → IsWithin d q k → IsPairReady r p q
pair_ready b Product (Ooa o m s depth) (Ooa u n t deeper) j k p q leads whole also first second =
    together b o u m s depth n t deeper p q (pair_rule b Product (Ooa o m s depth) (Ooa u n t deeper) leads).1 first.has.sized second.has.sized
pair_ready b Uuv (Ooa o m s depth) (Ooa u n t deeper) j k p q leads whole also first second =
    let z : IsSized (Ooa o m s depth) p = first.has.sized in
    let w : IsSized (Ooa u n t deeper) q = second.has.sized in
    (together b o u m s depth n t deeper p q (pair_rule b Uuv (Ooa o m s depth) (Ooa u n t deeper) leads).1 z w, omega (arith, z.2, w.2, pair_most b Uuv (Ooa o m s depth) (Ooa u n t deeper) leads))
pair_ready b r c d j k p q leads whole also first second = absurd cc

-- ---- it makes a system where it can be used

-- a row that is not zero has a pivot
pivot_exists : (v : List ℕ) → (c : ℕ) × (slice_index v c ≢ 0) → (x : ℕ) × IsPivot v x
pivot_exists v (c, other) = elim (search v (suc c)) [
  | inl found ↦ (found.0, record { within = inside found.0 found.1; not_zero = found.1; first = found.2 })
  | inr zeros ↦ absurd (other (zeros c (omega arith)))
]
  where
    inside : (x : ℕ) → slice_index v x ≢ 0 → x < length v
    inside x apart = elim (cases_lt x (length v)) [
      | inl l ↦ l
      | inr l ↦ absurd (apart (get_or_past v x 0 l))
    ]

-- there is the system with a coordinate fewer
fewer_exists : (p : Matrices) → IsWhole p → 2 ≤ p.coordinates → (a : Matrices) × IsWhole a × IsFewer p a
fewer_exists p w r =
    whole_from_digits p.order p.columns (p.coordinates - 1) p.depth (digit_of p)
    (w.columns_from, w.columns_to, omega arith, omega (arith, w.coordinates_to), w.depth_from, w.depth_to)
    (digit_in p w)

-- there is the system that a rule makes of a parent on which it can be used
pub rule_exists : (r : Rule) (p : Matrices) → IsWhole p → IsReady r p → (a : Matrices) × IsWhole a × IsRuleSystem r p a
rule_exists Fewer p w r = fewer_exists p w r
rule_exists Shallower p w r =
    whole_from_digits p.order p.columns p.coordinates (p.depth - 1) (digit_of p)
    (w.columns_from, w.columns_to, w.coordinates_from, w.coordinates_to, omega arith, omega (arith, w.depth_to))
    (digit_in p w)
rule_exists Deeper p w r =
    whole_from_digits p.order p.columns p.coordinates (suc p.depth) (λ i j c. cond (ltb j p.depth) (digit_of p i j c) 0)
    (w.columns_from, w.columns_to, w.coordinates_from, w.coordinates_to, omega arith, omega arith)
    (λ i j c. cond_in (ltb j p.depth) _ 0 _ (digit_in p w i j c) (number_pos p.order))
rule_exists Longer p w r =
    whole_from_digits p.order (suc p.columns) p.coordinates p.depth (λ i j c. cond (ltb c p.columns) (digit_of p i j c) 0)
    (omega arith, omega arith, w.coordinates_from, w.coordinates_to, w.depth_from, w.depth_to)
    (λ i j c. cond_in (ltb c p.columns) _ 0 _ (digit_in p w i j c) (number_pos p.order))
rule_exists QuotientKeep p w r =
    let x : (x : ℕ) × IsPivot (row_of p 0 0) x = pivot_exists (row_of p 0 0) r.2 in
    let made = whole_from_digits p.order (p.columns - 1) p.coordinates (p.depth - 1) (λ i j c. modulo_first p x.0 i (remaining_row i j) c)
    (omega (arith, r.0), omega (arith, w.columns_to), w.coordinates_from, w.coordinates_to, omega (arith, r.1), omega (arith, w.depth_to))
    (λ i j c. add_lt p.order _ _) in
    (made.0, made.1, (x.0, x.1, made.2))
rule_exists QuotientDrop p w r =
    let x : (x : ℕ) × IsPivot (row_of p 0 0) x = pivot_exists (row_of p 0 0) r.2 in
    let made = whole_from_digits p.order (p.columns - 1) (p.coordinates - 1) p.depth (λ i j c. modulo_first p x.0 (suc i) j c)
    (omega (arith, r.0), omega (arith, w.columns_to), omega (arith, r.1), omega (arith, w.coordinates_to), w.depth_from, w.depth_to)
    (λ i j c. add_lt p.order _ _) in
    (made.0, made.1, (x.0, x.1, made.2))
rule_exists SeqFewer p w r = fewer_exists p w r.0
rule_exists SeqCut p w r =
    whole_from_digits p.order (p.columns - 1) p.coordinates (p.depth - 1) (digit_of p)
    (omega (arith, r.0), omega (arith, w.columns_to), w.coordinates_from, w.coordinates_to, omega (arith, r.0, r.1), omega (arith, w.depth_to))
    (digit_in p w)
rule_exists SeqToNet p w r =
    whole_from_digits p.order p.columns (suc p.coordinates) p.depth
    (λ i j c. cond (ltb i p.coordinates) (digit_of p i j c) (unit (p.columns - 1 - j) c))
    (w.columns_from, w.columns_to, omega arith, omega (arith, r.0), w.depth_from, w.depth_to)
    (λ i j c. cond_in (ltb i p.coordinates) _ _ _ (digit_in p w i j c) (unit_in p.order (p.columns - 1 - j) c))
rule_exists r p w x = absurd x

-- the sizes of a system of two
pair_sizes : (p q : Matrices) → IsWhole p → IsWhole q → FitTogether p q → AreSizes (p.columns + q.columns) (p.coordinates + q.coordinates) q.depth
pair_sizes p q w u r = (omega (arith, w.columns_from), omega (arith, r.2), omega (arith, w.coordinates_from), omega (arith, r.3), u.depth_from, u.depth_to)

beside_in : (m : ℕ) (x y : ℕ → ℕ) (c n : ℕ) → x c < n → ((c : ℕ) → y c < n) → beside m x y c < n
beside_in m x y c n h g = cond_in (ltb c m) (x c) (y (c - m)) n h (g (c - m))

-- the first parent's digits are elements of the second's field
deepened_in : (p q : Matrices) → IsWhole p → FitTogether p q → (i j c : ℕ) → deepened p i j c < number_of q.order
deepened_in p q w r i j c =
    cond_in (ltb j p.depth) (digit_of p i j c) 0 (number_of q.order)
    (subst (λ o. digit_of p i j c < number_of o) r.0 (digit_in p w i j c)) (number_pos q.order)

pub pair_exists : (r : Rule) (p q : Matrices) → IsWhole p → IsWhole q → IsPairReady r p q → (a : Matrices) × IsWhole a × IsPairSystem r p q a
pair_exists Product p q w u r =
    whole_from_digits q.order (p.columns + q.columns) (p.coordinates + q.coordinates) q.depth (product_digit p q) (pair_sizes p q w u r)
    (λ i j c. cond_at (ltb i p.coordinates) _ _ c (number_of q.order)
    (beside_in p.columns (deepened p i j) zeros c (number_of q.order) (deepened_in p q w r i j c) (λ c. number_pos q.order))
    (beside_in p.columns zeros (digit_of q (i - p.coordinates) j) c (number_of q.order) (number_pos q.order) (digit_in q u (i - p.coordinates) j)))
pair_exists Uuv p q w u r =
    whole_from_digits q.order (p.columns + q.columns) (p.coordinates + q.coordinates) q.depth (uuv_digit p q) (pair_sizes p q w u r.0)
    (λ i j c. cond_at (ltb i p.coordinates) _ _ c (number_of q.order)
    (beside_in p.columns (deepened p i j) (λ c. neg_of q.order (digit_of q i j c)) c (number_of q.order)
    (deepened_in p q w r.0 i j c) (λ c. neg_lt q.order _))
    (beside_in p.columns zeros (digit_of q (i - p.coordinates) j) c (number_of q.order) (number_pos q.order) (digit_in q u (i - p.coordinates) j)))
pair_exists r p q w u x = absurd x

-- ---- it makes one

-- a row has one pivot
pivot_same : (v : List ℕ) (x y : ℕ) → IsPivot v x → IsPivot v y → y ≡ x
pivot_same v x y h g = elim (cases_order y x) [
  | inl e ↦ e
  | inr (inl l) ↦ absurd (g.not_zero (h.first y l))
  | inr (inr l) ↦ absurd (h.not_zero (g.first x l))
]

keep_same : (p a b : Matrices) → IsWhole a → IsWhole b → IsQuotientKeep p a → IsQuotientKeep p b → a ≡ b
keep_same p a b whole also (x, at, h) (y, pivot, g) =
    same_system p.order (p.columns - 1) p.coordinates (p.depth - 1) (λ i j c. modulo_first p x i (remaining_row i j) c) a b whole also h
    (subst (λ z. HasDigits b p.order (p.columns - 1) p.coordinates (p.depth - 1) (λ i j c. modulo_first p z i (remaining_row i j) c))
    (pivot_same (row_of p 0 0) x y at pivot) g)

drop_same : (p a b : Matrices) → IsWhole a → IsWhole b → IsQuotientDrop p a → IsQuotientDrop p b → a ≡ b
drop_same p a b whole also (x, at, h) (y, pivot, g) =
    same_system p.order (p.columns - 1) (p.coordinates - 1) p.depth (λ i j c. modulo_first p x (suc i) j c) a b whole also h
    (subst (λ z. HasDigits b p.order (p.columns - 1) (p.coordinates - 1) p.depth (λ i j c. modulo_first p z (suc i) j c))
    (pivot_same (row_of p 0 0) x y at pivot) g)

pub rule_same : (r : Rule) (p a b : Matrices) → IsWhole a → IsWhole b → IsRuleSystem r p a → IsRuleSystem r p b → a ≡ b
rule_same Fewer p a b whole also h g = same_system _ _ _ _ _ a b whole also h g
rule_same Shallower p a b whole also h g = same_system _ _ _ _ _ a b whole also h g
rule_same Deeper p a b whole also h g = same_system _ _ _ _ _ a b whole also h g
rule_same Longer p a b whole also h g = same_system _ _ _ _ _ a b whole also h g
rule_same QuotientKeep p a b whole also h g = keep_same p a b whole also h g
rule_same QuotientDrop p a b whole also h g = drop_same p a b whole also h g
rule_same SeqFewer p a b whole also h g = same_system _ _ _ _ _ a b whole also h g
rule_same SeqCut p a b whole also h g = same_system _ _ _ _ _ a b whole also h g
rule_same SeqToNet p a b whole also h g = same_system _ _ _ _ _ a b whole also h g
rule_same r p a b whole also h g = absurd h

pub pair_same : (r : Rule) (p q a b : Matrices) → IsWhole a → IsWhole b → IsPairSystem r p q a → IsPairSystem r p q b → a ≡ b
pair_same Product p q a b whole also h g = same_system _ _ _ _ _ a b whole also h g
pair_same Uuv p q a b whole also h g = same_system _ _ _ _ _ a b whole also h g
pair_same r p q a b whole also h g = absurd h
