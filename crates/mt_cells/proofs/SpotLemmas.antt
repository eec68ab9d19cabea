-- Each instance with a parent stands at a spot of it, and each spot holds one.
use Rattle.std.proofs.Common.{ℕ, ◌≡◌, ◌≢◌, ◌+◌, ◌-◌, ◌*◌, ◌/◌, ◌%◌, ◌≤◌, ◌<◌, ◌↔◌, ap, ap₂, refl, arith, sym, ◌∙◌, ⊎_elim, ◌⊎◌, inl, inr, Option, Some, None, subst, cond, Bool, true, false, MatchOption}
use Rattle.std.proofs.lemmas.Bool.{cases_lt, cases_eq, cases_Bool}
use Rattle.mt_cells.specs.declared.bounds.Bounds.{Bounds}
use Rattle.mt_cells.specs.declared.bounds.TheConstants.{MOST_COLUMNS}
use Rattle.mt_cells.specs.declared.cells.Cell.{Cell}
use Rattle.mt_cells.specs.declared.cells.Cell.TheVariants.{Ooa, Seq}
use Rattle.mt_cells.specs.declared.rules.Rule.{Rule}
use Rattle.mt_cells.specs.declared.rules.Rule.TheVariants.{Fewer}
use Rattle.mt_cells.specs.declared.rules.RuleSet.{RuleSet}
use Rattle.mt_cells.specs.declared.rules.TheConstants.{RULES}
use Rattle.mt_cells.specs.declared.instances.Instance.{Instance}
use Rattle.mt_cells.specs.declared.lines.Stage.{Stage}
use Rattle.mt_cells.specs.declared.lines.Stage.TheVariants as stage
use Rattle.mt_cells.specs.declared.lines.Line.{Line}
use Rattle.mt_cells.specs.Cells.{InBounds, columns_of, coordinates_of, number}
use Rattle.mt_cells.specs.Rules.{HasTarget, target, HasPairTarget, pair_target, rule_index, is_pair_rule}
use Rattle.mt_cells.specs.Instances.{has_rule, Leads, IsInstance, HasParent, second_or}
use Rattle.mt_cells.specs.Spots.{rank, stage_of, IsUsed, first_stage, key, end_key, IsPosition, IsSingleSpot, other, IsSpot, single_instance, instance_at, width, top, reach, FitsFirst, FitsSecond, least_second, most_first, IsRightLine}
use Rattle.mt_cells.proofs.CellLemmas.{number_apart}
use Rattle.mt_cells.proofs.RuleLemmas.{rule_back, rule_low, rule_apart, single_rule, target_inside, Fit, pair_rule, pair_least, pair_most, has_second, has_first, least_low}

-- ---- stages and keys

-- a stage is that of its rank
pub stage_back : (g : Stage) → stage_of (rank g) ≡ g
stage_back (stage.Single r) =
    let d : 3 * rule_index r / 3 ≡ rule_index r = omega arith in
    let e : 3 * rule_index r % 3 ≡ 0 = omega arith in
    rw (d, e, rule_back r) refl
stage_back (stage.First r) =
    let d : (3 * rule_index r + 1) / 3 ≡ rule_index r = omega arith in
    let e : (3 * rule_index r + 1) % 3 ≡ 1 = omega arith in
    rw (d, e, rule_back r) refl
stage_back (stage.Second r) =
    let d : (3 * rule_index r + 2) / 3 ≡ rule_index r = omega arith in
    let e : (3 * rule_index r + 2) % 3 ≡ 2 = omega arith in
    rw (d, e, rule_back r) refl
stage_back stage.End = refl

-- the first stage of a rule that has spots is the first with spots from its index on
from_first : (r : Rule) (g : Stage) → IsUsed g → 3 * rule_index r ≤ rank g → rank (first_stage (Some r)) ≤ rank g
from_first r g u l = elim (cases_Bool (is_pair_rule r)) [
  | inl e ↦ rw e (late g u l e)
  | inr e ↦ rw e l
]
  where
    late : (g : Stage) → IsUsed g → 3 * rule_index r ≤ rank g → is_pair_rule r ≡ true → 3 * rule_index r + 1 ≤ rank g
    late (stage.Single t) u l e = elim (cases_lt (rule_index r) (rule_index t)) [
      | inl x ↦ omega arith
      | inr x ↦ let same : r ≡ t = rule_apart r t (omega arith) in absurd cc
    ]
    late (stage.First t) u l e = omega arith
    late (stage.Second t) u l e = omega arith
    late stage.End u l e = absurd u

-- the first stage of the next rule comes after those of this one, and none with spots lies between
pub next_late : (r : Rule) (o : Option Rule) → MatchOption o (rule_index r + 1 ≡ RULES) (λ t. rule_index t ≡ rule_index r + 1) → 3 * rule_index r + 2 < rank (first_stage o)
next_late r None e = omega arith
next_late r (Some t) e = elim (cases_Bool (is_pair_rule t)) [
  | inl x ↦ rw x (omega arith)
  | inr x ↦ rw x (omega arith)
]

pub next_none : (r : Rule) (o : Option Rule) → MatchOption o (rule_index r + 1 ≡ RULES) (λ t. rule_index t ≡ rule_index r + 1)
    → (g : Stage) → IsUsed g → 3 * rule_index r + 3 ≤ rank g → rank (first_stage o) ≤ rank g
next_none r None e g u k = omega arith
next_none r (Some t) e g u k = from_first t g u (omega arith)

pub key_apart : (g h : Stage) (m d n e : ℕ) → m < 32 → d < 32 → n < 32 → e < 32 → key g m d ≡ key h n e → (g ≡ h) × (m ≡ n) × (d ≡ e)
key_apart g h m d n e a b c f p =
    let r : rank g ≡ rank h = omega arith in
    (sym (stage_back g) ∙ ap stage_of r ∙ stage_back h, omega arith, omega arith)

-- ---- spots

top_high : (b : Bounds) (g : Stage) → top b g ≤ MOST_COLUMNS
top_high b (stage.Single r) = omega arith
top_high b stage.End = omega arith
top_high b g = b.m_high

top_within : (b : Bounds) (g : Stage) → top b g ≤ b.m_max
top_within b (stage.Single r) = b.m_low
top_within b stage.End = b.m_low
top_within b g = omega arith

pub position_small : (b : Bounds) (g : Stage) (m d : ℕ) → IsPosition b g m d → (m < 32) × (d < 32)
position_small b g m d p = let h : top b g ≤ MOST_COLUMNS = top_high b g in (omega arith, omega arith)

-- no rank is above that of the end
pub rank_high : (g : Stage) → rank g ≤ rank stage.End
rank_high (stage.Single r) = omega (arith, rule_low r)
rank_high (stage.First r) = omega (arith, rule_low r)
rank_high (stage.Second r) = omega (arith, rule_low r)
rank_high stage.End = omega arith

-- no position has a key above those of the end
pub key_low : (b : Bounds) (g : Stage) (m d : ℕ) → IsPosition b g m d → key g m d < end_key
key_low b g m d p = let small = position_small b g m d p in omega (arith, rank_high g)

-- no position stands between the last row of a column and the next column, or the last of a stage and the next stage
pub column_next : (b : Bounds) (g h : Stage) (m d n e : ℕ) → IsPosition b g m d → IsPosition b h n e → m ≤ d → key g m d < key h n e → key g (m + 1) 1 ≤ key h n e
column_next b g h m d n e p q f l = let high : top b g ≤ MOST_COLUMNS = top_high b g in let high' : top b h ≤ MOST_COLUMNS = top_high b h in omega arith

pub stage_next : (b : Bounds) (c : Cell) (g k h : Stage) (m d n e : ℕ) → IsPosition b g m d → IsPosition b h n e → n ≤ reach b c h → (rank g < rank h → rank k ≤ rank h) → reach b c g ≤ m → m ≤ d → key g m d < key h n e → key k 1 1 ≤ key h n e
stage_next b c g k h m d n e p q near next last f l = ⊎_elim
    (λ (x : rank g < rank h). let y : rank k ≤ rank h = next x in omega arith)
    (λ (x : rank h ≤ rank g). absurd (
    let high : top b h ≤ MOST_COLUMNS = top_high b h in
    let a : rank h ≡ rank g = omega arith in
    let same : h ≡ g = sym (stage_back h) ∙ ap stage_of a ∙ stage_back g in
    let z : reach b c h ≡ reach b c g = ap (reach b c) same in
    omega arith))
    (cases_lt (rank g) (rank h))

-- where a spot stands
pub record Stands (b : Bounds) (g : Stage) (m d s : ℕ) : Type 0 where
  pub used : IsUsed g
  pub position : IsPosition b g m d
  pub m_small : m < 32
  pub depth_small : d < 32
  pub low : 1 ≤ s
  pub high : s ≤ width b g

-- there is room for the sums of the sizes of a pair
fit_sums : (b : Bounds) (p q : Cell) → Fit b p q → (columns_of p + columns_of q ≤ b.m_max) × (coordinates_of p + coordinates_of q ≤ b.s_max)
fit_sums b (Ooa o m s depth) (Ooa p n t deeper) h = (h.2, h.3)
fit_sums b p q h = absurd h

pub pair_sums : (b : Bounds) (r : Rule) (p q : Cell) → HasPairTarget b r p q → (columns_of p + columns_of q ≤ b.m_max) × (coordinates_of p + coordinates_of q ≤ b.s_max)
pair_sums b r p q h = fit_sums b p q (pair_rule b r p q h).1

pub coordinates_low : (b : Bounds) (c : Cell) → InBounds b c → 1 ≤ coordinates_of c
coordinates_low b (Ooa o m s depth) h = h.2
coordinates_low b (Seq o m s) h = h.2

pair_stands : (b : Bounds) (c : Cell) (g : Stage) (m d s : ℕ) → InBounds b c → IsUsed g → InBounds b (other c m d s) → top b g ≡ b.m_max → width b g ≡ b.s_max - 1 → coordinates_of c + s ≤ b.s_max → Stands b g m d s
pair_stands b c g m d s h u i e f l =
    let low = coordinates_low b c h in
    let high = b.m_high in
    record { used = u; position = (i.0, omega arith, i.4, i.5); m_small = omega arith; depth_small = omega arith; low = i.2; high = omega arith }

pub stands : (b : Bounds) (rules : RuleSet) (c : Cell) (g : Stage) (m d s : ℕ) → InBounds b c → IsSpot b rules c g m d s → Stands b g m d s
stands b rules c (stage.Single r) m d s h p = record { used = single_rule b r c p.1; position = (omega arith, omega arith, omega arith, omega arith); m_small = omega arith; depth_small = omega arith; low = omega arith; high = omega arith }
stands b rules c (stage.First r) m d s h p = pair_stands b c (stage.First r) m d s h (pair_rule b r c (other c m d s) p.1.1).0 p.0 refl refl (pair_sums b r c (other c m d s) p.1.1).1
stands b rules c (stage.Second r) m d s h p = pair_stands b c (stage.Second r) m d s h (pair_rule b r (other c m d s) c p.1.1).0 p.0 refl refl (let l : s + coordinates_of c ≤ b.s_max = (pair_sums b r (other c m d s) c p.1.1).1 in omega arith)
stands b rules c stage.End m d s h p = absurd p

-- no spot of a cell has an m above its reach
pub reach_high : (b : Bounds) (rules : RuleSet) (c : Cell) (g : Stage) (m d s : ℕ) → IsSpot b rules c g m d s → m ≤ reach b c g
reach_high b rules c (stage.Single r) m d s p = omega arith
reach_high b rules (Ooa o n t e) (stage.First r) m d s p = let l : n + m ≤ b.m_max = (pair_sums b r (Ooa o n t e) (Ooa o m s d) p.1.1).0 in omega arith
reach_high b rules (Ooa o n t e) (stage.Second r) m d s p = let l : m + n ≤ b.m_max = (pair_sums b r (Ooa o m s d) (Ooa o n t e) p.1.1).0 in omega arith
reach_high b rules (Seq o n t) (stage.First r) m d s p = absurd (pair_rule b r (Seq o n t) (Ooa o m s d) p.1.1).1
reach_high b rules (Seq o n t) (stage.Second r) m d s p = absurd (pair_rule b r (Ooa o m s d) (Seq o n t) p.1.1).1
reach_high b rules c stage.End m d s p = absurd p

pub holds : (b : Bounds) (rules : RuleSet) (c : Cell) (g : Stage) (m d s : ℕ) → InBounds b c → IsSpot b rules c g m d s → IsInstance b rules (instance_at c g m d s)
holds b rules c (stage.Single r) m d s h p = record { configured = p.0; first = h; leads = (p.1, refl) }
holds b rules c (stage.First r) m d s h p = record { configured = p.1.0; first = h; leads = (p.0, p.1.1, refl) }
holds b rules c (stage.Second r) m d s h p = record { configured = p.1.0; first = p.0; leads = (h, p.1.1, refl) }
holds b rules c stage.End m d s h p = absurd p

pub parent : (b : Bounds) (rules : RuleSet) (c : Cell) (g : Stage) (m d s : ℕ) → IsSpot b rules c g m d s → HasParent c (instance_at c g m d s)
parent b rules c (stage.Single r) m d s p = inl refl
parent b rules c (stage.First r) m d s p = inl refl
parent b rules c (stage.Second r) m d s p = inr refl
parent b rules c stage.End m d s p = absurd p

-- the spot of an instance
pub record Placed (b : Bounds) (rules : RuleSet) (c : Cell) (i : Instance) : Type 0 where
  pub g : Stage
  pub m : ℕ
  pub d : ℕ
  pub s : ℕ
  pub spot : IsSpot b rules c g m d s
  pub is : instance_at c g m d s ≡ i

-- an instance of these parts
abbrev build : Rule → Cell → Cell → Option Cell → Instance
build r t f y = record { rule = r; target = t; first = f; second = y }

path : (r : Rule) (t t' f f' : Cell) (y y' : Option Cell) → t ≡ t' → f ≡ f' → y ≡ y' → build r t f y ≡ build r t' f' y'
path r t t' f f' y y' p q e = ap (λ x. build r x f y) p ∙ ap (λ x. build r t' x y) q ∙ ap (λ x. build r t' f' x) e

-- the instance of a rule with one parent is the one of its parent
single_is : (b : Bounds) (rule : Rule) (c t f : Cell) → t ≡ target rule f → f ≡ c → single_instance rule c ≡ build rule t f None
single_is b rule c t f e p = path rule (target rule c) t c f None None (ap (target rule) (sym p) ∙ sym e) (sym p) refl

single_spot : (b : Bounds) (rules : RuleSet) (rule : Rule) (c f : Cell) → has_rule rules rule ≡ true → HasTarget b rule f → f ≡ c → IsSingleSpot b rules rule c 1 1 1
single_spot b rules rule c f q h p = (q, subst (HasTarget b rule) p h, refl, refl, refl)

some_same : (x y : Cell) → Some x ≡ Some y → x ≡ y
some_same x y e = cc

-- a pair that fits is that of the one cell with another of these sizes
record Sizes (c y : Cell) : Type 0 where
  pub m : ℕ
  pub d : ℕ
  pub s : ℕ
  pub is : y ≡ other c m d s

fit_second : (b : Bounds) (c y : Cell) → Fit b c y → Sizes c y
fit_second b (Ooa o m s d) (Ooa p n t e) h = record { m = n; d = e; s = t; is = ap (λ w. Ooa w n t e) (sym h.0) }
fit_second b c y h = absurd h

fit_first : (b : Bounds) (f c : Cell) → Fit b f c → Sizes c f
fit_first b (Ooa p n t e) (Ooa o m s d) h = record { m = n; d = e; s = t; is = ap (λ w. Ooa w n t e) h.0 }
fit_first b f c h = absurd h

-- a pair stands among those with its first parent as first, and, where they differ, among those with its second as second
placed_first : (b : Bounds) (rules : RuleSet) (r : Rule) (c y g : Cell) → has_rule rules r ≡ true → InBounds b y → HasPairTarget b r c y → g ≡ pair_target r c y → Placed b rules c (build r g c (Some y))
placed_first b rules r c y g q i h x =
    let z = fit_second b c y (pair_rule b r c y h).1 in
    record {
      g = stage.First r;
      m = z.m;
      d = z.d;
      s = z.s;
      spot = (subst (InBounds b) z.is i, (q, subst (λ w. HasPairTarget b r c w) z.is h));
      is = path r _ g _ _ _ _ (ap (pair_target r c) (sym z.is) ∙ sym x) refl (ap (λ w. Some w) (sym z.is));
    }

placed_second : (b : Bounds) (rules : RuleSet) (r : Rule) (f c g : Cell) → has_rule rules r ≡ true → InBounds b f → HasPairTarget b r f c → g ≡ pair_target r f c → f ≢ c → Placed b rules c (build r g f (Some c))
placed_second b rules r f c g q i h x other =
    let z = fit_first b f c (pair_rule b r f c h).1 in
    record {
      g = stage.Second r;
      m = z.m;
      d = z.d;
      s = z.s;
      spot = (subst (InBounds b) z.is i, (q, subst (λ w. HasPairTarget b r w c) z.is h), λ w. other (z.is ∙ w));
      is = path r _ g _ _ _ _ (ap (λ w. pair_target r w c) (sym z.is) ∙ sym x) (sym z.is) refl;
    }

pair_first : (b : Bounds) (rules : RuleSet) (c : Cell) (r : Rule) (g f y : Cell) → has_rule rules r ≡ true → InBounds b y → HasPairTarget b r f y → g ≡ pair_target r f y → f ≡ c → Placed b rules c (build r g f (Some y))
pair_first b rules c r g f y q i h x e = subst (λ z. Placed b rules c (build r g z (Some y))) (sym e) (placed_first b rules r c y g q i (subst (λ z. HasPairTarget b r z y) e h) (x ∙ ap (λ z. pair_target r z y) e))

pair_second : (b : Bounds) (rules : RuleSet) (c : Cell) (r : Rule) (g f y : Cell) → has_rule rules r ≡ true → InBounds b f → HasPairTarget b r f y → g ≡ pair_target r f y → y ≡ c → f ≢ c → Placed b rules c (build r g f (Some y))
pair_second b rules c r g f y q i h x e other = subst (λ z. Placed b rules c (build r g f (Some z))) (sym e) (placed_second b rules r f c g q i (subst (λ z. HasPairTarget b r f z) e h) (x ∙ ap (λ z. pair_target r f z) e) other)

-- an instance of these parts stands at a spot of each of its parents
placed_on : (b : Bounds) (rules : RuleSet) (c : Cell) (r : Rule) (t f : Cell) (y : Option Cell) → InBounds b c → has_rule rules r ≡ true → InBounds b f → Leads b r t f y → HasParent c (build r t f y) → Placed b rules c (build r t f y)
placed_on b rules c r t f None h q k l (inl e) = record { g = stage.Single r; m = 1; d = 1; s = 1; spot = single_spot b rules r c f q l.0 e; is = single_is b r c t f l.1 e }
placed_on b rules c r t f None h q k l (inr e) = cc
placed_on b rules c r t f (Some y) h q k l (inl e) = pair_first b rules c r t f y q l.0 l.1 l.2 e
placed_on b rules c r t f (Some y) h q k l (inr e) = ⊎_elim
    (λ (same : number b f ≡ number b c). pair_first b rules c r t f y q l.0 l.1 l.2 (number_apart b f c k h same))
    (λ (apart : number b f ≢ number b c). pair_second b rules c r t f y q k l.1 l.2 (some_same y c e) (λ same. apart (ap (number b) same)))
    (cases_eq (number b f) (number b c))

pub placed : (b : Bounds) (rules : RuleSet) (c : Cell) (i : Instance) → InBounds b c → IsInstance b rules i → HasParent c i → Placed b rules c i
placed b rules c i h k p = placed_on b rules c i.rule i.target i.first i.second h k.configured k.first k.leads p

-- the rule of a stage
rule_of : Stage → Rule
rule_of (stage.Single r) = r
rule_of (stage.First r) = r
rule_of (stage.Second r) = r
rule_of stage.End = Fewer

-- the instance at a spot is one of its stage's rule
rule_is : (c : Cell) (g : Stage) (m d s : ℕ) → (instance_at c g m d s).rule ≡ rule_of g
unfolding rule_of
rule_is c (stage.Single r) m d s = refl
rule_is c (stage.First r) m d s = refl
rule_is c (stage.Second r) m d s = refl
rule_is c stage.End m d s = refl

-- the cell is the second parent, and another the first
is_second : Stage → Bool
is_second (stage.Second r) = true
is_second g = false

-- the stage of a rule and a side
stage_on : Rule → Bool → Stage
stage_on r true = stage.Second r
stage_on r false = cond (is_pair_rule r) (stage.First r) (stage.Single r)

-- the stage of a spot is that of its rule and its side
stage_is : (b : Bounds) (rules : RuleSet) (c : Cell) (g : Stage) (m d s : ℕ) → IsSpot b rules c g m d s → stage_on (rule_of g) (is_second g) ≡ g
unfolding rule_of is_second stage_on
stage_is b rules c (stage.Single r) m d s p = rw (single_rule b r c p.1) refl
stage_is b rules c (stage.First r) m d s p = rw (pair_rule b r c (other c m d s) p.1.1).0 refl
stage_is b rules c (stage.Second r) m d s p = refl
stage_is b rules c stage.End m d s p = absurd p

first_is : (c : Cell) (g : Stage) (m d s : ℕ) → is_second g ≡ false → (instance_at c g m d s).first ≡ c
unfolding is_second
first_is c (stage.Second r) m d s e = absurd cc
first_is c g m d s e = refl

first_other : (b : Bounds) (rules : RuleSet) (c : Cell) (g : Stage) (m d s : ℕ) → IsSpot b rules c g m d s → is_second g ≡ true → (instance_at c g m d s).first ≢ c
unfolding is_second
first_other b rules c (stage.Second r) m d s p e = p.2
first_other b rules c g m d s p e = absurd cc

-- spots of one instance are on one side
same_side : (b : Bounds) (rules : RuleSet) (c : Cell) (g h : Stage) (m d s n e t : ℕ) → IsSpot b rules c g m d s → IsSpot b rules c h n e t → instance_at c g m d s ≡ instance_at c h n e t → is_second g ≡ is_second h
same_side b rules c g h m d s n e t p q x =
    let first : (instance_at c g m d s).first ≡ (instance_at c h n e t).first = ap (λ (i : Instance). i.first) x in
    elim (cases_Bool (is_second g)) [
      | inl u ↦ elim (cases_Bool (is_second h)) [ inl v ↦ u ∙ sym v | inr v ↦ absurd (first_other b rules c g m d s p u (first ∙ first_is c h n e t v)) ]
      | inr u ↦ elim (cases_Bool (is_second h)) [ inl v ↦ absurd (first_other b rules c h n e t q v (sym first ∙ first_is c g m d s u)) | inr v ↦ u ∙ sym v ]
    ]

depth_of : Cell → ℕ
depth_of (Ooa o m s d) = d
depth_of (Seq o m s) = 0

pub others_same : (c : Cell) (m d s n e t : ℕ) → other c m d s ≡ other c n e t → (m ≡ n) × (d ≡ e) × (s ≡ t)
unfolding depth_of
others_same c m d s n e t x = (ap columns_of x, ap depth_of x, ap coordinates_of x)

-- one stage has an instance at one spot only
same_in_stage : (b : Bounds) (rules : RuleSet) (c : Cell) (g : Stage) (m d s n e t : ℕ) → IsSpot b rules c g m d s → IsSpot b rules c g n e t → instance_at c g m d s ≡ instance_at c g n e t → (m ≡ n) × (d ≡ e) × (s ≡ t)
same_in_stage b rules c (stage.Single r) m d s n e t p q x = (omega arith, omega arith, omega arith)
same_in_stage b rules c (stage.First r) m d s n e t p q x = others_same c m d s n e t (ap (λ (i : Instance). second_or c i.second) x)
same_in_stage b rules c (stage.Second r) m d s n e t p q x = others_same c m d s n e t (ap (λ (i : Instance). i.first) x)
same_in_stage b rules c stage.End m d s n e t p q x = absurd p

-- no two spots hold the same instance
pub same_spot : (b : Bounds) (rules : RuleSet) (c : Cell) (g h : Stage) (m d s n e t : ℕ) → IsSpot b rules c g m d s → IsSpot b rules c h n e t → instance_at c g m d s ≡ instance_at c h n e t → (g ≡ h) × (m ≡ n) × (d ≡ e) × (s ≡ t)
same_spot b rules c g h m d s n e t p q x =
    let rule : rule_of g ≡ rule_of h = sym (rule_is c g m d s) ∙ ap (λ (i : Instance). i.rule) x ∙ rule_is c h n e t in
    let side : is_second g ≡ is_second h = same_side b rules c g h m d s n e t p q x in
    let stage : g ≡ h = sym (stage_is b rules c g m d s p) ∙ ap₂ stage_on rule side ∙ stage_is b rules c h n e t q in
    let rest = same_in_stage b rules c g m d s n e t p (subst (λ (k : Stage). IsSpot b rules c k n e t) (sym stage) q) (subst (λ (k : Stage). instance_at c g m d s ≡ instance_at c k n e t) (sym stage) x) in
    (stage, rest.0, rest.1, rest.2)

-- ---- cells of an instance

-- the target of a pair is one too
pair_inside : (b : Bounds) (r : Rule) (p q : Cell) → InBounds b p → InBounds b q → Fit b p q → InBounds b (pair_target r p q)
pair_inside b r (Ooa o m s depth) (Ooa p n t deeper) h i l = (omega arith, l.2, omega arith, l.3, i.4, omega arith)
pair_inside b r p q h i l = absurd l

-- the same by the parts of an instance, with its second parent
inside_on : (b : Bounds) (r : Rule) (t f : Cell) (y : Option Cell) → InBounds b f → Leads b r t f y → InBounds b t × InBounds b (second_or f y)
inside_on b r t f None h l = (subst (InBounds b) (sym l.1) (target_inside b r f h l.0), h)
inside_on b r t f (Some y) h l = (subst (InBounds b) (sym l.2) (pair_inside b r f y h l.0 (pair_rule b r f y l.1).1), l.0)

-- the target and the second parent are cells of the bounds
pub inside : (b : Bounds) (rules : RuleSet) (i : Instance) → IsInstance b rules i → InBounds b i.target × InBounds b (second_or i.first i.second)
inside b rules i h = inside_on b i.rule i.target i.first i.second h.first h.leads

-- ---- lines

-- a spot not before a line stands in it or after it
pub past_line : (b : Bounds) (rules : RuleSet) (c : Cell) (h : Stage) (n e k k' : ℕ) → ((g : Stage) (m d s : ℕ) → IsSpot b rules c g m d s → k ≤ key g m d → key h n e ≤ key g m d)
    → ((g : Stage) (m d s : ℕ) → IsSpot b rules c g m d s → key h n e < key g m d → k' ≤ key g m d)
    → (g : Stage) (m d s : ℕ) → IsSpot b rules c g m d s → k ≤ key g m d → (key g m d ≡ key h n e) ⊎ (k' ≤ key g m d)
past_line b rules c h n e k k' old later g m d s p x = elim (cases_lt (key h n e) (key g m d)) [
  | inl y ↦ inr (later g m d s p y)
  | inr y ↦ inl (let w : key h n e ≤ key g m d = old g m d s p x in omega arith)
]

-- an empty line is passed
pub past_empty : (b : Bounds) (rules : RuleSet) (c : Cell) (h : Stage) (n e k k' : ℕ) (l : Line) → InBounds b c → IsPosition b h n e → IsRightLine b rules c h n e l → l.last < l.first
    → ((g : Stage) (m d s : ℕ) → IsSpot b rules c g m d s → k ≤ key g m d → key h n e ≤ key g m d)
    → ((g : Stage) (m d s : ℕ) → IsSpot b rules c g m d s → key h n e < key g m d → k' ≤ key g m d)
    → (g : Stage) (m d s : ℕ) → IsSpot b rules c g m d s → k ≤ key g m d → k' ≤ key g m d
past_empty b rules c h n e k k' l inb pos right empty old later g m d s p x = ⊎_elim
    (λ (y : key g m d ≡ key h n e). absurd (here (
    let st = stands b rules c g m d s inb p in
    let small = position_small b h n e pos in
    key_apart g h m d n e st.m_small st.depth_small small.0 small.1 y)))
    (λ (y : k' ≤ key g m d). y)
    (past_line b rules c h n e k k' old later g m d s p x)
  where
    here : (g ≡ h) × (m ≡ n) × (d ≡ e) → ⊥
    here q = let r = (right.spots s).0 (rw (q.0, q.1, q.2) at p) in omega arith

-- ---- lines of pairs

-- how the cell fits an array
fits_first : (b : Bounds) (rules : RuleSet) (r : Rule) (c : Cell) (m d s : ℕ) → FitsFirst b rules r c m d s ↔ ((has_rule rules r ≡ true) × (is_pair_rule r ≡ true) × Fit b c (other c m d s))
fits_first b rules r (Ooa o n t e) m d s = (λ h. (h.1, h.0, (refl, h.3, h.2, h.4)), λ h. (h.1, h.0, h.2.2, h.2.1, h.2.3))
fits_first b rules r (Seq o n t) m d s = (λ h. absurd h, λ h. absurd h.2)

fits_second : (b : Bounds) (rules : RuleSet) (r : Rule) (c : Cell) (m d s : ℕ) → FitsSecond b rules r c m d s ↔ ((has_rule rules r ≡ true) × (is_pair_rule r ≡ true) × Fit b (other c m d s) c)
fits_second b rules r (Ooa o n t e) m d s = (
  λ h. (h.1, h.0, (refl, h.3, let l : n + m ≤ b.m_max = h.2 in omega arith, let l : t + s ≤ b.s_max = h.4 in omega arith)),
  λ h. (h.1, h.0, let l : m + n ≤ b.m_max = h.2.2 in omega arith, h.2.1, let l : s + t ≤ b.s_max = h.2.3 in omega arith),
)
fits_second b rules r (Seq o n t) m d s = (λ h. absurd h, λ h. absurd h.2)

-- the other parent is in the bounds where there is room for it
other_inside : (b : Bounds) (c : Cell) (g : Stage) (m d s : ℕ) → IsPosition b g m d → 1 ≤ s → s ≤ b.s_max → InBounds b (other c m d s)
other_inside b c g m d s p l h = let t : top b g ≤ b.m_max = top_within b g in (p.0, omega arith, l, h, p.2, p.3)

pub first_line : (b : Bounds) (rules : RuleSet) (r : Rule) (c : Cell) (m d s room : ℕ) → InBounds b c → IsPosition b (stage.First r) m d → (1 ≤ s → ((s ≤ room) ↔ FitsFirst b rules r c m d s))
    → IsSpot b rules c (stage.First r) m d s ↔ ((least_second r c ≤ s) × (s ≤ room) × (s ≢ 0))
first_line b rules r c m d s room i p f = (
  λ h. let z = pair_rule b r c (other c m d s) h.1.1 in
      let low : 1 ≤ s = h.0.2 in
      (pair_least b r c (other c m d s) low h.1.1, (f low).1 ((fits_first b rules r c m d s).1 (h.1.0, z.0, z.1)), omega arith),
  λ h. let least : 1 ≤ least_second r c = least_low r c (coordinates_low b c i) in
      let some : least_second r c ≤ s = h.0 in
      let low : 1 ≤ s = omega arith in
      let z = (fits_first b rules r c m d s).0 ((f low).0 h.1) in
      let sum : coordinates_of c + s ≤ b.s_max = (fit_sums b c (other c m d s) z.2).1 in
      (other_inside b c (stage.First r) m d s p low (omega arith), (z.0, has_second b r c (other c m d s) z.1 z.2 some)),
)

pub second_line : (b : Bounds) (rules : RuleSet) (r : Rule) (c : Cell) (m d s room own : ℕ) → IsPosition b (stage.Second r) m d → (1 ≤ s → ((s ≤ room) ↔ (FitsSecond b rules r c m d s × (s ≤ most_first r c s)))) → (1 ≤ s → ((s ≢ own) ↔ (other c m d s ≢ c)))
    → IsSpot b rules c (stage.Second r) m d s ↔ ((1 ≤ s) × (s ≤ room) × (s ≢ own))
second_line b rules r c m d s room own p f k = (
  λ h. let z = pair_rule b r (other c m d s) c h.1.1 in
      (h.0.2, (f h.0.2).1 ((fits_second b rules r c m d s).1 (h.1.0, z.0, z.1), pair_most b r (other c m d s) c h.1.1), (k h.0.2).1 h.2),
  λ h. let w = (f h.0).0 h.1 in
      let z = (fits_second b rules r c m d s).0 w.0 in
      let sum : s + coordinates_of c ≤ b.s_max = (fit_sums b (other c m d s) c z.2).1 in
      (other_inside b c (stage.Second r) m d s p h.0 (omega arith), (z.0, has_first b r (other c m d s) c z.1 z.2 w.1), (k h.0).0 h.2),
)
