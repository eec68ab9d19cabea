-- Propagation rules: what they ask of their parents, their targets and what they conclude, from one parent or from two.
use Rattle.std.specs.Prelude.{◌==◌, ℕ, ◌+◌, ◌-◌, ◌*◌, Bool, true, false, ◌&&◌, eqb, leb, ltb, cond, min, List, [], ◌∷◌, IsTrue}
use Rattle.mt_linear.specs.Field.{number_of}
use Rattle.mt_cells.specs.declared.bounds.Bounds.{Bounds}
use Rattle.mt_cells.specs.declared.cells.Cell.{Cell}
use Rattle.mt_cells.specs.declared.cells.Cell.TheVariants.{Ooa, Seq}
use Rattle.mt_cells.specs.declared.rules.Rule.{Rule}
use Rattle.mt_cells.specs.declared.rules.Rule.TheVariants.{Fewer, Shallower, Deeper, Longer, QuotientKeep, QuotientDrop, SeqFewer, SeqCut, SeqToNet, Product, Uuv}
use Rattle.mt_cells.specs.Cells.{coordinates_of}

-- ---- one parent

-- the rule has a target for this parent in the bounds
abbrev pub has_target : Bounds → Rule → Cell → Bool
has_target b Fewer (Ooa o m s depth) = leb 2 s
has_target b Shallower (Ooa o m s depth) = leb 2 depth
has_target b Deeper (Ooa o m s depth) = ltb depth m
has_target b Longer (Ooa o m s depth) = ltb m b.m_max
has_target b QuotientKeep (Ooa o m s depth) = leb 2 m && leb 2 depth
has_target b QuotientDrop (Ooa o m s depth) = leb 2 m && (leb 2 s && ltb depth m)
has_target b SeqFewer (Seq o m s) = leb 2 s
has_target b SeqCut (Seq o m s) = leb 2 m
has_target b SeqToNet (Seq o m s) = ltb s b.s_max
has_target b r c = false

abbrev pub HasTarget : Bounds → Rule → Cell → Type 0
HasTarget b r c = IsTrue (has_target b r c)

abbrev pub target : Rule → Cell → Cell
target Fewer (Ooa o m s depth) = Ooa o m (s - 1) depth
target Shallower (Ooa o m s depth) = Ooa o m s (depth - 1)
target Deeper (Ooa o m s depth) = Ooa o m s (depth + 1)
target Longer (Ooa o m s depth) = Ooa o (m + 1) s depth
target QuotientKeep (Ooa o m s depth) = Ooa o (m - 1) s (depth - 1)
target QuotientDrop (Ooa o m s depth) = Ooa o (m - 1) (s - 1) depth
target SeqFewer (Seq o m s) = Seq o m (s - 1)
target SeqCut (Seq o m s) = Seq o (m - 1) s
target SeqToNet (Seq o m s) = Ooa o m (s + 1) m
target r c = c

-- the value of the target, from the value of the parent
abbrev pub conclusion : Rule → Cell → ℕ → ℕ
conclusion Deeper (Ooa o m s depth) k = min k depth
conclusion QuotientKeep c k = k - 1
conclusion QuotientDrop c k = k - 1
conclusion SeqCut c k = k - 1
conclusion r c k = k

-- the least value of a parent from which a derivation goes on
abbrev pub least_parent : Rule → ℕ
least_parent QuotientKeep = 1
least_parent QuotientDrop = 1
least_parent SeqCut = 1
least_parent r = 0

-- ---- two parents

-- the strength of a system of strength k whose depth is raised by zero rows
abbrev pub deepened_strength : ℕ → ℕ → ℕ → ℕ
deepened_strength depth deeper k = cond (depth == deeper) k (min k depth)

-- the two are arrays over one field, of which the first is not deeper, and there is room for the sums of their sizes
abbrev pub fits : Bounds → Cell → Cell → Bool
fits b (Ooa o m s depth) (Ooa p n t deeper) = eqb (number_of o) (number_of p) && (leb depth deeper && (leb (m + n) b.m_max && leb (s + t) b.s_max))
fits b p q = false

-- the rule has a target for these two parents in the bounds
abbrev pub has_pair_target : Bounds → Rule → Cell → Cell → Bool
has_pair_target b Product p q = fits b p q
has_pair_target b Uuv p q = fits b p q && leb (coordinates_of p) (coordinates_of q)
has_pair_target b r p q = false

abbrev pub HasPairTarget : Bounds → Rule → Cell → Cell → Type 0
HasPairTarget b r p q = IsTrue (has_pair_target b r p q)

abbrev pub pair_target : Rule → Cell → Cell → Cell
pair_target r (Ooa o m s depth) (Ooa p n t deeper) = Ooa o (m + n) (s + t) deeper
pair_target r p q = p

-- the value of the target, from the values of its two parents
abbrev pub pair_conclusion : Rule → Cell → Cell → ℕ → ℕ → ℕ
pair_conclusion Product (Ooa o m s depth) (Ooa p n t deeper) j k = min (deepened_strength depth deeper j) k
pair_conclusion Uuv (Ooa o m s depth) (Ooa p n t deeper) j k = min (2 * deepened_strength depth deeper j + 1) k
pair_conclusion r p q j k = 0

-- ---- the order of the rules

abbrev pub rule_index : Rule → ℕ
rule_index Fewer = 0
rule_index Shallower = 1
rule_index Deeper = 2
rule_index Longer = 3
rule_index QuotientKeep = 4
rule_index QuotientDrop = 5
rule_index SeqFewer = 6
rule_index SeqCut = 7
rule_index SeqToNet = 8
rule_index Product = 9
rule_index Uuv = 10

-- the rules by their index
abbrev pub all_rules : List Rule
all_rules = Fewer ∷ Shallower ∷ Deeper ∷ Longer ∷ QuotientKeep ∷ QuotientDrop ∷ SeqFewer ∷ SeqCut ∷ SeqToNet ∷ Product ∷ Uuv ∷ []

-- those with two parents
abbrev pub is_pair_rule : Rule → Bool
is_pair_rule Product = true
is_pair_rule Uuv = true
is_pair_rule r = false
