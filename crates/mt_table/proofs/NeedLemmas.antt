-- Instances that follow from others are done where those are.
use Rattle.std.proofs.Common.{◌≡◌, ◌==◌, ℕ, zero, suc, ◌+◌, ◌≤◌, ◌<◌, inl, inr, true, false, min, Option, None, Some, refl, sym, ap₂, arith}
use Rattle.std.proofs.lemmas.Bool.{cases_Bool, cases_lt, eqb-true}
use Rattle.mt_linear.specs.declared.order.Order.{Order}
use Rattle.mt_cells.specs.declared.bounds.Bounds.{Bounds}
use Rattle.mt_cells.specs.declared.cells.Cell.{Cell}
use Rattle.mt_cells.specs.declared.cells.Cell.TheVariants.{Ooa, Seq}
use Rattle.mt_cells.specs.declared.instances.Instance.{Instance}
use Rattle.mt_cells.specs.declared.rules.Rule.{Rule}
use Rattle.mt_cells.specs.declared.rules.Rule.TheVariants.{Deeper, Product, Uuv}
use Rattle.mt_cells.specs.declared.rules.RuleSet.{RuleSet}
use Rattle.mt_cells.specs.Cells.{InBounds, coordinates_of}
use Rattle.mt_cells.specs.Rules.{HasTarget, target, conclusion, pair_conclusion, deepened_strength, pair_target, HasPairTarget}
use Rattle.mt_cells.specs.Instances.{has_rule, IsInstance, Leads, conclusion_by, second_or}
use Rattle.mt_cells.specs.Spots.{least_second, pair_instance, single_instance}
use Rattle.mt_cells.proofs.RuleLemmas.{Fit, pair_rule, pair_least, has_second}
use Rattle.mt_derive.specs.Closed.{IsDone}
use Rattle.mt_table.specs.Needs.{depth_of, IsDeepest, IsOwn, IsNeeded}
use Rattle.std.proofs.lemmas.Bool.{lt-ltb, eq-eqb}

-- the target has what the rule concludes from the two
abbrev pub PairDone : (Cell → ℕ) → Rule → Cell → Cell → Type 0
PairDone value r p q = pair_conclusion r p q (value p) (value q) ≤ value (pair_target r p q)

-- the target has what deeper concludes from the cell
abbrev pub DeeperDone : (Cell → ℕ) → Cell → Type 0
DeeperDone value p = conclusion Deeper p (value p) ≤ value (target Deeper p)

strength_deeper : (d e j k : ℕ) → d < e → min j d ≤ k → deepened_strength d e j ≤ deepened_strength (d + 1) e k
strength_deeper d e j k l h = elim (cases_Bool (d == e)) [
  | inl x ↦ let same : d ≡ e = eqb-true d e x in absurd (omega arith)
  | inr x ↦ elim (cases_Bool (d + 1 == e)) [ inl y ↦ rw (x, y) h | inr y ↦ rw (x, y) (omega (arith, h)) ]
]

-- a pair follows from that with its first parent deeper
deeper_pair : (value : Cell → ℕ) (r : Rule) (o w : Order) (m s d n t e : ℕ) → d < e → DeeperDone value (Ooa o m s d) → PairDone value r (Ooa o m s (d + 1)) (Ooa w n t e) → PairDone value r (Ooa o m s d) (Ooa w n t e)
deeper_pair value Product o w m s d n t e l k h =
    let more : deepened_strength d e (value (Ooa o m s d)) ≤ deepened_strength (d + 1) e (value (Ooa o m s (d + 1))) = strength_deeper d e _ _ l k in omega (arith, h, more)
deeper_pair value Uuv o w m s d n t e l k h =
    let more : deepened_strength d e (value (Ooa o m s d)) ≤ deepened_strength (d + 1) e (value (Ooa o m s (d + 1))) = strength_deeper d e _ _ l k in omega (arith, h, more)
deeper_pair value r o w m s d n t e l k h = omega arith

least_deeper : (r : Rule) (o : Order) (m s d : ℕ) → least_second r (Ooa o m s (d + 1)) ≡ least_second r (Ooa o m s d)
least_deeper Uuv o m s d = refl
least_deeper r o m s d = refl

-- the deeper first parent fits too
deeper_fits : (b : Bounds) (r : Rule) (o w : Order) (m s d n t e : ℕ) → 1 ≤ t → d < e → HasPairTarget b r (Ooa o m s d) (Ooa w n t e) → HasPairTarget b r (Ooa o m s (d + 1)) (Ooa w n t e)
deeper_fits b r o w m s d n t e low l h =
    let z = pair_rule b r (Ooa o m s d) (Ooa w n t e) h in
    let f : Fit b (Ooa o m s d) (Ooa w n t e) = z.1 in
    let least : least_second r (Ooa o m s d) ≤ t = pair_least b r (Ooa o m s d) (Ooa w n t e) low h in
    has_second b r (Ooa o m s (d + 1)) (Ooa w n t e) z.0 (f.0, omega arith, f.2, f.3) (rw (least_deeper r o m s d) least)

-- the pairs of a rule are done that do not follow from a deeper one
abbrev pub DeepestDone : Bounds → RuleSet → (Cell → ℕ) → Rule → Type 0
DeepestDone b rules value r = (p q : Cell) → InBounds b p → InBounds b q → HasPairTarget b r p q → IsDeepest rules p q → PairDone value r p q

abbrev pub AllPairsDone : Bounds → (Cell → ℕ) → Rule → Type 0
AllPairsDone b value r = (p q : Cell) → InBounds b p → InBounds b q → HasPairTarget b r p q → PairDone value r p q

-- so are those that do, of which the first parent is less than n rows less deep
deep_done : (b : Bounds) (rules : RuleSet) (value : Cell → ℕ) (r : Rule) → ((p : Cell) → InBounds b p → HasTarget b Deeper p → DeeperDone value p) → DeepestDone b rules value r
    → (n : ℕ) (p q : Cell) → depth_of q < depth_of p + n → InBounds b p → InBounds b q → HasPairTarget b r p q → PairDone value r p q
deep_done b rules value r deeper deepest n (Seq o m s) q l hp hq h = absurd (pair_rule b r (Seq o m s) q h).1
deep_done b rules value r deeper deepest n (Ooa o m s d) (Seq w x t) l hp hq h = absurd (pair_rule b r (Ooa o m s d) (Seq w x t) h).1
deep_done b rules value r deeper deepest zero (Ooa o m s d) (Ooa w x t e) l hp hq h = deepest (Ooa o m s d) (Ooa w x t e) hp hq h (λ _. omega arith)
deep_done b rules value r deeper deepest (suc n) (Ooa o m s d) (Ooa w x t e) l hp hq h = elim (cases_lt d (min m e)) [
  | inl y ↦ deeper_pair value r o w m s d x t e (omega arith) (deeper (Ooa o m s d) hp (lt-ltb d m (omega arith)))
      (deep_done b rules value r deeper deepest n (Ooa o m s (d + 1)) (Ooa w x t e) (omega arith) (hp.0, hp.1, hp.2, hp.3, omega arith, omega arith) hq (deeper_fits b r o w m s d x t e hq.2 (omega arith) h))
  | inr y ↦ deepest (Ooa o m s d) (Ooa w x t e) hp hq h (λ _. y)
]

-- a product follows from (u,u+v) of its parents, and of the two the other way round where they are equally deep
uuv_product : (value : Cell → ℕ) (o w : Order) (m s d n t e : ℕ) → PairDone value Uuv (Ooa o m s d) (Ooa w n t e) → PairDone value Product (Ooa o m s d) (Ooa w n t e)
uuv_product value o w m s d n t e h = omega (arith, h)

strength_same : (d j : ℕ) → deepened_strength d d j ≡ j
strength_same d j = rw (eq-eqb d d refl) refl

uuv_swapped : (value : Cell → ℕ) (o : Order) (m s d n t : ℕ) → PairDone value Uuv (Ooa o n t d) (Ooa o m s d) → PairDone value Product (Ooa o m s d) (Ooa o n t d)
uuv_swapped value o m s d n t h =
    let e : value (Ooa o (n + m) (t + s) d) ≡ value (Ooa o (m + n) (s + t) d) = ap₂ (λ x y. value (Ooa o x y d)) (omega arith) (omega arith) in
    omega (arith, h, e, strength_same d (value (Ooa o m s d)), strength_same d (value (Ooa o n t d)))

product_swapped : (b : Bounds) (value : Cell → ℕ) (p q : Cell) → AllPairsDone b value Uuv → InBounds b p → InBounds b q → HasPairTarget b Product p q → coordinates_of q ≤ coordinates_of p → depth_of q ≤ depth_of p → PairDone value Product p q
product_swapped b value (Seq o m s) q uuv hp hq h x y = absurd (pair_rule b Product (Seq o m s) q h).1
product_swapped b value (Ooa o m s d) (Seq w n t) uuv hp hq h x y = absurd (pair_rule b Product (Ooa o m s d) (Seq w n t) h).1
product_swapped b value (Ooa o m s d) (Ooa w n t e) uuv hp hq h x y =
    let f : Fit b (Ooa o m s d) (Ooa w n t e) = (pair_rule b Product (Ooa o m s d) (Ooa w n t e) h).1 in
    let same : d ≡ e = omega (arith, f.1) in
    let back : HasPairTarget b Uuv (Ooa w n t e) (Ooa o m s d) = has_second b Uuv (Ooa w n t e) (Ooa o m s d) refl (sym f.0, y, omega (arith, f.2), omega (arith, f.3)) x in
    let done : PairDone value Uuv (Ooa w n t e) (Ooa o m s d) = uuv (Ooa w n t e) (Ooa o m s d) hq hp back in
    rw (← f.0, ← same) (uuv_swapped value o m s d n t (rw (← f.0, ← same) at done))

product_straight : (b : Bounds) (value : Cell → ℕ) (p q : Cell) → AllPairsDone b value Uuv → InBounds b p → InBounds b q → HasPairTarget b Product p q → coordinates_of p ≤ coordinates_of q → PairDone value Product p q
product_straight b value (Seq o m s) q uuv hp hq h x = absurd (pair_rule b Product (Seq o m s) q h).1
product_straight b value (Ooa o m s d) (Seq w n t) uuv hp hq h x = absurd (pair_rule b Product (Ooa o m s d) (Seq w n t) h).1
product_straight b value (Ooa o m s d) (Ooa w n t e) uuv hp hq h x =
    uuv_product value o w m s d n t e (uuv (Ooa o m s d) (Ooa w n t e) hp hq (has_second b Uuv (Ooa o m s d) (Ooa w n t e) refl (pair_rule b Product (Ooa o m s d) (Ooa w n t e) h).1 x))

-- where every needed instance is done, every instance is
pub all_done : (b : Bounds) (rules : RuleSet) (value : Cell → ℕ) → ((i : Instance) → IsInstance b rules i → IsNeeded rules i → IsDone value i) → (i : Instance) → IsInstance b rules i → IsDone value i
all_done b rules value needed i h = by_parts i.rule i.target i.first i.second h.configured h.first h.leads
  where
    deeper : has_rule rules Deeper ≡ true → (p : Cell) → InBounds b p → HasTarget b Deeper p → DeeperDone value p
    deeper has p hp t = needed (single_instance Deeper p) (record { configured = has; first = hp; leads = (t, refl) }) (record {})

    pair : (r : Rule) → has_rule rules r ≡ true → (p q : Cell) → InBounds b p → InBounds b q → HasPairTarget b r p q → IsDeepest rules p q → IsOwn rules r p q → PairDone value r p q
    pair r has p q hp hq t deep own = needed (pair_instance r p q) (record { configured = has; first = hp; leads = (hq, t, refl) }) (deep, own)

    all_pairs : (r : Rule) → DeepestDone b rules value r → AllPairsDone b value r
    all_pairs r deepest p q hp hq t = elim (cases_Bool (has_rule rules Deeper)) [
      | inl has ↦ deep_done b rules value r (deeper has) deepest (depth_of q + 1) p q (omega arith) hp hq t
      | inr not ↦ deepest p q hp hq t (λ has. absurd (let e : has_rule rules Deeper ≡ false = not in cc))
    ]

    uuv : has_rule rules Uuv ≡ true → AllPairsDone b value Uuv
    uuv has = all_pairs Uuv (λ p q hp hq t deep. pair Uuv has p q hp hq t deep (λ e. absurd cc))

    product : has_rule rules Product ≡ true → AllPairsDone b value Product
    product has = all_pairs Product (λ p q hp hq t deep. elim (cases_Bool (has_rule rules Uuv)) [
      | inr not ↦ pair Product has p q hp hq t deep (λ e also. absurd (let f : has_rule rules Uuv ≡ false = not in cc))
      | inl also ↦ elim (cases_lt (coordinates_of q) (coordinates_of p)) [
        | inr x ↦ product_straight b value p q (uuv also) hp hq t x
        | inl x ↦ elim (cases_lt (depth_of p) (depth_of q)) [
          | inl y ↦ pair Product has p q hp hq t deep (λ e f. (x, y))
          | inr y ↦ product_swapped b value p q (uuv also) hp hq t (omega arith) y
        ]
      ]
    ])

    by_rule : (r : Rule) (p q : Cell) → has_rule rules r ≡ true → InBounds b p → InBounds b q → HasPairTarget b r p q → PairDone value r p q
    by_rule Product p q has hp hq t = product has p q hp hq t
    by_rule Uuv p q has hp hq t = uuv has p q hp hq t
    by_rule r p q has hp hq t = absurd cc

    by_parts : (r : Rule) (t f : Cell) (y : Option Cell) → has_rule rules r ≡ true → InBounds b f → Leads b r t f y → conclusion_by r f y (value f) (value (second_or f y)) ≤ value t
    by_parts r t f None has hf l = needed (record { rule = r; target = t; first = f; second = None }) (record { configured = has; first = hf; leads = l }) (record {})
    by_parts r t f (Some y) has hf l = rw l.2 (by_rule r f y has hf l.0 l.1)
