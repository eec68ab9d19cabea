-- What holds of each rule.
use Rattle.std.proofs.Common.{◌≡◌, ◌==◌, ℕ, ◌+◌, ◌≤◌, ◌<◌, ◌&&◌, eqb, leb, ltb, ap, refl, arith, le_trans, inl, inr, Option, Some, None, true, false}
use Rattle.std.specs.Prelude.{slice_get}
use Rattle.std.specs.Bool.{Decides}
use Rattle.std.proofs.lemmas.Bool.{cases_Bool, leb-true, le-leb, ltb-true, and_parts, and_from}
use Rattle.std.proofs.lemmas.Bool.Decides.{Decides-and, Decides-eqb, Decides-like}
use Rattle.mt_linear.specs.declared.order.Order.{Order}
use Rattle.mt_linear.specs.Field.{number_of}
use Rattle.mt_cells.specs.declared.bounds.Bounds.{Bounds}
use Rattle.mt_cells.specs.declared.cells.Cell.{Cell}
use Rattle.mt_cells.specs.declared.cells.Cell.TheVariants.{Ooa, Seq}
use Rattle.mt_cells.specs.declared.rules.Rule.{Rule}
use Rattle.mt_cells.specs.declared.rules.Rule.TheVariants.{Fewer, Shallower, Deeper, Longer, QuotientKeep, QuotientDrop, SeqFewer, SeqCut, SeqToNet, Product, Uuv}
use Rattle.mt_cells.specs.declared.rules.TheConstants.{RULES}
use Rattle.mt_cells.specs.Cells.{InBounds, columns_of, coordinates_of}
use Rattle.mt_cells.specs.Rules.{HasTarget, target, conclusion, pair_conclusion, deepened_strength, least_parent, pair_target, fits, HasPairTarget, rule_index, all_rules, is_pair_rule}
use Rattle.mt_cells.specs.Instances.{Leads, conclusion_by, second_or}
use Rattle.mt_cells.specs.Spots.{least_second, most_first}
use Rattle.mt_cells.proofs.CellLemmas.{order_same}

-- ---- the order of the rules

pub rule_back : (r : Rule) → slice_get all_rules (rule_index r) ≡ Some r
rule_back Fewer = refl
rule_back Shallower = refl
rule_back Deeper = refl
rule_back Longer = refl
rule_back QuotientKeep = refl
rule_back QuotientDrop = refl
rule_back SeqFewer = refl
rule_back SeqCut = refl
rule_back SeqToNet = refl
rule_back Product = refl
rule_back Uuv = refl

pub rule_apart : (r t : Rule) → rule_index r ≡ rule_index t → r ≡ t
rule_apart r t e =
    let a = rule_back r in
    let a' = rule_back t in
    let i : slice_get all_rules (rule_index r) ≡ slice_get all_rules (rule_index t) = ap (slice_get all_rules) e in
    cc

pub rule_low : (r : Rule) → rule_index r < RULES
rule_low Uuv = omega arith
rule_low r = omega arith

-- ---- one parent

-- a rule that has a target for one parent is not one with two
pub single_rule : (b : Bounds) (r : Rule) (c : Cell) → HasTarget b r c → is_pair_rule r ≡ false
single_rule b Product (Ooa o m s depth) h = absurd cc
single_rule b Product (Seq o m s) h = absurd cc
single_rule b Uuv (Ooa o m s depth) h = absurd cc
single_rule b Uuv (Seq o m s) h = absurd cc
single_rule b r c h = refl

-- the target of a rule with one parent is a cell of the bounds
pub target_inside : (b : Bounds) (r : Rule) (c : Cell) → InBounds b c → HasTarget b r c → InBounds b (target r c)
target_inside b Fewer (Ooa o m s depth) h l = let k = leb-true 2 s l in (h.0, h.1, omega arith, omega arith, h.4, h.5)
target_inside b Shallower (Ooa o m s depth) h l = let k = leb-true 2 depth l in (h.0, h.1, h.2, h.3, omega arith, omega arith)
target_inside b Deeper (Ooa o m s depth) h l = let k = ltb-true depth m l in (h.0, h.1, h.2, h.3, omega arith, omega arith)
target_inside b Longer (Ooa o m s depth) h l = let k = ltb-true m b.m_max l in (omega arith, omega arith, h.2, h.3, h.4, omega arith)
target_inside b QuotientKeep (Ooa o m s depth) h l =
    let parts = and_parts (leb 2 m) (leb 2 depth) l in
    let k = leb-true 2 m parts.0 in
    let k' = leb-true 2 depth parts.1 in
    (omega arith, omega arith, h.2, h.3, omega arith, omega arith)
target_inside b QuotientDrop (Ooa o m s depth) h l =
    let parts = and_parts (leb 2 m) (leb 2 s && ltb depth m) l in
    let parts' = and_parts (leb 2 s) (ltb depth m) parts.1 in
    let k = leb-true 2 m parts.0 in
    let k' = leb-true 2 s parts'.0 in
    let k'' = ltb-true depth m parts'.1 in
    (omega arith, omega arith, omega arith, omega arith, h.4, omega arith)
target_inside b SeqFewer (Seq o m s) h l = let k = leb-true 2 s l in (h.0, h.1, omega arith, omega arith)
target_inside b SeqCut (Seq o m s) h l = let k = leb-true 2 m l in (omega arith, omega arith, h.2, h.3)
target_inside b SeqToNet (Seq o m s) h l = let k = ltb-true s b.s_max l in (h.0, h.1, omega arith, omega arith, h.0, omega arith)
target_inside b r c h l = absurd cc

-- ---- two parents

-- what `fits` says
abbrev pub Fit : Bounds → Cell → Cell → Type 0
Fit b (Ooa o m s depth) (Ooa p n t deeper) = (o ≡ p) × (depth ≤ deeper) × (m + n ≤ b.m_max) × (s + t ≤ b.s_max)
Fit b p q = ⊥

le_decides : (a b : ℕ) → Decides (leb a b) (a ≤ b)
le_decides a b = (leb-true a b, le-leb a b)

order_decides : (o p : Order) → Decides (eqb (number_of o) (number_of p)) (o ≡ p)
order_decides o p = Decides-like _ (order_same o p) (ap number_of) (Decides-eqb (number_of o) (number_of p))

pub fit_decides : (b : Bounds) (p q : Cell) → Decides (fits b p q) (Fit b p q)
fit_decides b (Ooa o m s depth) (Ooa p n t deeper) =
    Decides-like _ (λ h. (h.0, h.1.0, h.1.1.0, h.1.1.1)) (λ h. (h.0, (h.1, (h.2, h.3))))
    (Decides-and _ _ (order_decides o p) (Decides-and _ _ (le_decides depth deeper) (Decides-and _ _ (le_decides (m + n) b.m_max) (le_decides (s + t) b.s_max))))
fit_decides b p q = (λ h. absurd cc, λ h. absurd h)

-- a rule that has a target for two parents is one with two, which fit together
pub pair_rule : (b : Bounds) (r : Rule) (p q : Cell) → HasPairTarget b r p q → (is_pair_rule r ≡ true) × Fit b p q
pair_rule b Product p q h = (refl, (fit_decides b p q).0 h)
pair_rule b Uuv p q h = (refl, (fit_decides b p q).0 (and_parts (fits b p q) (leb (coordinates_of p) (coordinates_of q)) h).0)
pair_rule b r p q h = absurd cc

-- the coordinates of its parents, the least of a second and the most of a first
pub pair_least : (b : Bounds) (r : Rule) (p q : Cell) → 1 ≤ coordinates_of q → HasPairTarget b r p q → least_second r p ≤ coordinates_of q
pair_least b Uuv p q l h = leb-true _ _ (and_parts (fits b p q) (leb (coordinates_of p) (coordinates_of q)) h).1
pair_least b r p q l h = l

pub pair_most : (b : Bounds) (r : Rule) (p q : Cell) → HasPairTarget b r p q → coordinates_of p ≤ most_first r q (coordinates_of p)
pair_most b Uuv p q h = let l : coordinates_of p ≤ coordinates_of q = leb-true _ _ (and_parts (fits b p q) (leb (coordinates_of p) (coordinates_of q)) h).1 in omega arith
pair_most b r p q h = omega arith

-- where these are right, it has a target
pub has_second : (b : Bounds) (r : Rule) (p q : Cell) → is_pair_rule r ≡ true → Fit b p q → least_second r p ≤ coordinates_of q → HasPairTarget b r p q
has_second b Product p q e h l = (fit_decides b p q).1 h
has_second b Uuv p q e h l = and_from (fits b p q) (leb (coordinates_of p) (coordinates_of q)) ((fit_decides b p q).1 h) (le-leb _ _ l)
has_second b r p q e h l = absurd cc

pub has_first : (b : Bounds) (r : Rule) (p q : Cell) → is_pair_rule r ≡ true → Fit b p q → coordinates_of p ≤ most_first r q (coordinates_of p) → HasPairTarget b r p q
has_first b Product p q e h l = (fit_decides b p q).1 h
has_first b Uuv p q e h l = and_from (fits b p q) (leb (coordinates_of p) (coordinates_of q)) ((fit_decides b p q).1 h) (le-leb _ _ (omega arith))
has_first b r p q e h l = absurd cc

pub least_low : (r : Rule) (c : Cell) → 1 ≤ coordinates_of c → 1 ≤ least_second r c
least_low Uuv c l = l
least_low r c l = omega arith

-- ---- conclusions

-- a greater value of the parent concludes no less
pub conclusion_mono : (r : Rule) (p : Cell) (j k : ℕ) → j ≤ k → conclusion r p j ≤ conclusion r p k
conclusion_mono Deeper (Ooa o m s depth) j k h = omega arith
conclusion_mono QuotientKeep p j k h = omega arith
conclusion_mono QuotientDrop p j k h = omega arith
conclusion_mono SeqCut p j k h = omega arith
conclusion_mono r p j k h = h

deepened_mono : (depth deeper j k : ℕ) → j ≤ k → deepened_strength depth deeper j ≤ deepened_strength depth deeper k
deepened_mono depth deeper j k h = elim (cases_Bool (depth == deeper)) [ inl e ↦ rw e h | inr e ↦ rw e (omega arith) ]

-- greater values of the parents conclude no less
pub pair_mono : (r : Rule) (p q : Cell) (j k g l : ℕ) → j ≤ k → g ≤ l → pair_conclusion r p q j g ≤ pair_conclusion r p q k l
pair_mono Product (Ooa o m s depth) (Ooa p n t deeper) j k g l h i = let more = deepened_mono depth deeper j k h in omega arith
pair_mono Uuv (Ooa o m s depth) (Ooa p n t deeper) j k g l h i = let more = deepened_mono depth deeper j k h in omega arith
pair_mono r p q j k g l h i = omega arith

-- a derivation goes on from a parent whose conclusion is more than nothing
pub conclusion_least : (r : Rule) (p : Cell) (k : ℕ) → 0 < conclusion r p k → least_parent r ≤ k
conclusion_least QuotientKeep p k h = omega arith
conclusion_least QuotientDrop p k h = omega arith
conclusion_least SeqCut p k h = omega arith
conclusion_least r p k h = omega arith

-- a conclusion is no more than the value of the parent
conclusion_low : (r : Rule) (p : Cell) (k : ℕ) → conclusion r p k ≤ k
conclusion_low Deeper (Ooa o m s depth) k = omega arith
conclusion_low QuotientKeep p k = omega arith
conclusion_low QuotientDrop p k = omega arith
conclusion_low SeqCut p k = omega arith
conclusion_low r p k = omega arith

-- a conclusion is at most the columns of the target where the value is at most those of the parent
single_within : (b : Bounds) (r : Rule) (p : Cell) (k : ℕ) → HasTarget b r p → k ≤ columns_of p → conclusion r p k ≤ columns_of (target r p)
single_within b Fewer (Ooa o m s depth) k h i = i
single_within b Shallower (Ooa o m s depth) k h i = i
single_within b Deeper (Ooa o m s depth) k h i = omega (arith, i)
single_within b Longer (Ooa o m s depth) k h i = omega (arith, i)
single_within b QuotientKeep (Ooa o m s depth) k h i = omega (arith, i)
single_within b QuotientDrop (Ooa o m s depth) k h i = omega (arith, i)
single_within b SeqFewer (Seq o m s) k h i = i
single_within b SeqCut (Seq o m s) k h i = omega (arith, i)
single_within b SeqToNet (Seq o m s) k h i = i
single_within b r p k h i = absurd cc

-- a conclusion from two parents is at most as great as a bound of their values
pair_high : (r : Rule) (p q : Cell) (most j k : ℕ) → j ≤ most → k ≤ most → pair_conclusion r p q j k ≤ most
pair_high Product (Ooa o m s depth) (Ooa p n t deeper) most j k h i = omega arith
pair_high Uuv (Ooa o m s depth) (Ooa p n t deeper) most j k h i = omega arith
pair_high r p q most j k h i = omega arith

-- it is at most the columns of the target where the value of the second is at most those of the second
pair_within : (b : Bounds) (r : Rule) (p q : Cell) (j k : ℕ) → HasPairTarget b r p q → k ≤ columns_of q → pair_conclusion r p q j k ≤ columns_of (pair_target r p q)
pair_within b Product (Ooa o m s depth) (Ooa p n t deeper) j k h i = omega (arith, i)
pair_within b Uuv (Ooa o m s depth) (Ooa p n t deeper) j k h i = omega (arith, i)
pair_within b r p q j k h i = absurd cc

-- a rule with two parents asks nothing of their values
pub pair_least_parent : (b : Bounds) (r : Rule) (p q : Cell) → HasPairTarget b r p q → least_parent r ≡ 0
pair_least_parent b Product p q h = refl
pair_least_parent b Uuv p q h = refl
pair_least_parent b r p q h = absurd cc

-- a conclusion is at most as great as a bound of the values of the parents
pub high_by : (r : Rule) (p : Cell) (q : Option Cell) (most j k : ℕ) → j ≤ most → k ≤ most → conclusion_by r p q j k ≤ most
high_by r p None most j k h i = le_trans (conclusion_low r p j) h
high_by r p (Some q) most j k h i = pair_high r p q most j k h i

-- a conclusion is at most the columns of the target where the values are at most those of the parents
pub conclusion_within : (b : Bounds) (r : Rule) (t p : Cell) (q : Option Cell) (j k : ℕ) → Leads b r t p q → j ≤ columns_of p → k ≤ columns_of (second_or p q) → conclusion_by r p q j k ≤ columns_of t
conclusion_within b r t p None j k l h i = rw l.1 (single_within b r p j l.0 h)
conclusion_within b r t p (Some q) j k l h i = rw l.2 (pair_within b r p q j k l.1 i)
