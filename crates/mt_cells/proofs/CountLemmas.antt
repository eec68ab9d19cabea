-- How many spots there are.
use Rattle.std.proofs.Common.{ℕ, zero, suc, ◌≡◌, ◌+◌, ◌-◌, ◌*◌, ◌≤◌, ◌<◌, ap, arith, sym, ◌∙◌, ⊎_elim, inl, inr, subst, cond}
use Rattle.std.proofs.Math.Nat.{mul-le-mul_right}
use Rattle.std.proofs.lemmas.Bool.{cases_lt}
use Rattle.std.proofs.lemmas.Nat.{mul-le}
use Rattle.mt_cells.specs.declared.bounds.Bounds.{Bounds}
use Rattle.mt_cells.specs.declared.lines.Stage.{Stage}
use Rattle.mt_cells.specs.declared.lines.Stage.TheVariants as stage
use Rattle.mt_cells.specs.Rules.{is_pair_rule}
use Rattle.mt_cells.specs.Instances.{fan_of}
use Rattle.mt_cells.specs.Spots.{rank, stage_of, IsUsed, key, IsPosition, width}
use Rattle.mt_cells.proofs.CellLemmas.{radix_lt}
use Rattle.mt_cells.proofs.SpotLemmas.{position_small, stage_back}
use Rattle.mt_cells.proofs.RuleLemmas.{rule_low}

-- at most how many lines a stage of pairs has from m and depth on
abbrev pub lines_left : Bounds → ℕ → ℕ → ℕ
lines_left b m d = b.m_max * b.m_max - ((m - 1) * b.m_max + (d - 1))

-- at most how many spots the stage has at m and depth and after them
abbrev pub left_in : Bounds → Stage → ℕ → ℕ → ℕ
left_in b (stage.Single r) m d = 1
left_in b stage.End m d = 0
left_in b g m d = lines_left b m d * (b.s_max - 1)

-- at most how many spots a stage of pairs has
abbrev pub pair_spots : Bounds → ℕ
pair_spots b = b.m_max * b.m_max * (b.s_max - 1)

-- at most how many spots the stage has
abbrev pub most_in : Bounds → Stage → ℕ
most_in b (stage.Single r) = 1
most_in b (stage.First r) = cond (is_pair_rule r) (pair_spots b) 0
most_in b (stage.Second r) = cond (is_pair_rule r) (pair_spots b) 0
most_in b stage.End = 0

-- at most how many spots the last n stages before the end have
pub left_from : Bounds → ℕ → ℕ
left_from b zero = 0
left_from b (suc n) = most_in b (stage_of (rank stage.End - suc n)) + left_from b n

-- at most how many spots do not stand before stage, m and depth
abbrev pub left : Bounds → Stage → ℕ → ℕ → ℕ
left b g m d = left_from b (rank stage.End - (rank g + 1)) + left_in b g m d

left_more : (b : Bounds) (n k : ℕ) → left_from b n ≤ left_from b (k + n)
unfolding left_from
left_more b n zero = let e : 0 + n ≡ n = omega arith in rw e (omega arith)
left_more b n (suc k) =
    let e : suc k + n ≡ suc (k + n) = omega arith in
    let less : left_from b n ≤ left_from b (k + n) = left_more b n k in
    rw e (omega arith)

left_from_falls : (b : Bounds) (n k : ℕ) → n ≤ k → left_from b n ≤ left_from b k
left_from_falls b n k h = let e : k - n + n ≡ k = omega arith in rw e at (left_more b n (k - n))

-- a stage of pairs has no more spots from a line on than in all
lines_high : (b : Bounds) (m d : ℕ) → lines_left b m d * (b.s_max - 1) ≤ pair_spots b
lines_high b m d = mul-le-mul_right (b.s_max - 1) (omega arith)

lines_low : (b : Bounds) (m d : ℕ) → 1 ≤ m → m ≤ b.m_max → 1 ≤ d → d ≤ m → 1 ≤ lines_left b m d
lines_low b m d h i j k = let l : (m - 1) * b.m_max + (d - 1) < b.m_max * b.m_max = radix_lt b.m_max (m - 1) (d - 1) b.m_max (omega arith) (omega arith) in omega arith

lines_fall : (b : Bounds) (m d n e : ℕ) → 1 ≤ m → m ≤ b.m_max → 1 ≤ d → d ≤ m → 1 ≤ n → n ≤ b.m_max → 1 ≤ e → e ≤ n → m * 32 + d < n * 32 + e → lines_left b n e + 1 ≤ lines_left b m d
lines_fall b m d n e h i j k h' i' j' k' l =
    let high = b.m_high in
    let whole : (n - 1) * b.m_max + (e - 1) < b.m_max * b.m_max = radix_lt b.m_max (n - 1) (e - 1) b.m_max (omega arith) (omega arith) in
    elim (cases_lt m n) [
      | inl x ↦ let far : (m - 1) * b.m_max + (d - 1) < (n - 1) * b.m_max = radix_lt b.m_max (m - 1) (d - 1) (n - 1) (omega arith) (omega arith) in omega arith
      | inr x ↦ let same : (m - 1) * b.m_max ≡ (n - 1) * b.m_max = ap (λ w. (w - 1) * b.m_max) (omega arith) in omega arith
    ]

-- a used stage has no more spots from a position on than in all
left_most : (b : Bounds) (g : Stage) (m d : ℕ) → IsUsed g → left_in b g m d ≤ most_in b g
left_most b (stage.Single r) m d u = omega arith
left_most b (stage.First r) m d u = rw u (lines_high b m d)
left_most b (stage.Second r) m d u = rw u (lines_high b m d)
left_most b stage.End m d u = omega arith

-- a stage and those after it have no more spots than those of its rank and above
left_from_step : (b : Bounds) (g : Stage) (m d : ℕ) → IsUsed g → rank g < rank stage.End → left b g m d ≤ left_from b (rank stage.End - rank g)
unfolding left_from
left_from_step b g m d u l =
    let e : rank stage.End - rank g ≡ suc (rank stage.End - (rank g + 1)) = omega arith in
    let f : rank stage.End - suc (rank stage.End - (rank g + 1)) ≡ rank g = omega arith in
    let most : left_in b g m d ≤ most_in b g = left_most b g m d u in
    rw (e, f, stage_back g) (omega arith)

pub width_fits : (b : Bounds) (g : Stage) (m d : ℕ) → IsPosition b g m d → width b g ≤ left_in b g m d
width_fits b (stage.Single r) m d p = omega arith
width_fits b stage.End m d p = omega arith
width_fits b g m d p = let most : 1 * (b.s_max - 1) ≤ lines_left b m d * (b.s_max - 1) = mul-le-mul_right (b.s_max - 1) (lines_low b m d p.0 p.1 p.2 p.3) in omega arith

left_in_falls : (b : Bounds) (g : Stage) (m d n e : ℕ) → IsPosition b g m d → IsPosition b g n e → m * 32 + d < n * 32 + e → left_in b g n e + width b g ≤ left_in b g m d
left_in_falls b (stage.Single r) m d n e p q l = absurd (omega arith)
left_in_falls b stage.End m d n e p q l = omega arith
left_in_falls b g m d n e p q l =
    let fewer : lines_left b n e + 1 ≤ lines_left b m d = lines_fall b m d n e p.0 p.1 p.2 p.3 q.0 q.1 q.2 q.3 l in
    let most : (lines_left b n e + 1) * (b.s_max - 1) ≤ lines_left b m d * (b.s_max - 1) = mul-le-mul_right (b.s_max - 1) fewer in
    omega arith

-- the end is not used
pub used_low : (g : Stage) → IsUsed g → rank g < rank stage.End
used_low (stage.Single r) u = omega (arith, rule_low r)
used_low (stage.First r) u = omega (arith, rule_low r)
used_low (stage.Second r) u = omega (arith, rule_low r)
used_low stage.End u = absurd u

-- a later position has less before it, by a whole line
pub left_falls : (b : Bounds) (g h : Stage) (m d n e : ℕ) → IsUsed h → IsPosition b g m d → IsPosition b h n e → key g m d < key h n e → left b h n e + width b g ≤ left b g m d
left_falls b g h m d n e u p q l = ⊎_elim
    (λ (x : rank g < rank h).
    let low : rank h < rank stage.End = used_low h u in
    let s : left b h n e ≤ left_from b (rank stage.End - rank h) = left_from_step b h n e u low in
    let t : left_from b (rank stage.End - rank h) ≤ left_from b (rank stage.End - (rank g + 1)) = left_from_falls b (rank stage.End - rank h) (rank stage.End - (rank g + 1)) (omega arith) in
    let w : width b g ≤ left_in b g m d = width_fits b g m d p in
    omega arith)
    (λ (x : rank h ≤ rank g).
    let small = position_small b g m d p in
    let small' = position_small b h n e q in
    let r : rank h ≡ rank g = omega arith in
    let same : h ≡ g = sym (stage_back h) ∙ ap stage_of r ∙ stage_back g in
    let w : left_in b g n e + width b g ≤ left_in b g m d = left_in_falls b g m d n e p (subst (λ (k : Stage). IsPosition b k n e) same q) (omega arith) in
    subst (λ (k : Stage). left b k n e + width b g ≤ left b g m d) (sym same) (omega arith))
    (cases_lt (rank g) (rank h))

-- the bound on the number of instances is no less than the spots of all stages
fan_low : (b : Bounds) → left_from b (rank stage.End) ≤ fan_of b
unfolding left_from
fan_low b =
    let square : 1 * 1 ≤ b.m_max * b.m_max = mul-le 1 1 b.m_max b.m_max b.m_low b.m_low in
    let low = b.s_low in
    let one : 4 * b.s_max * b.m_max * b.m_max ≡ 4 * (b.s_max - 1 + 1) * b.m_max * b.m_max = ap (λ n. 4 * n * b.m_max * b.m_max) (omega arith) in
    let parts : 4 * (b.s_max - 1 + 1) * b.m_max * b.m_max ≡ 4 * (b.m_max * b.m_max * (b.s_max - 1)) + 4 * (b.m_max * b.m_max) = omega arith in
    omega arith

-- no position has more spots left than the bound on the number of instances
pub left_high : (b : Bounds) (g : Stage) (m d : ℕ) → IsUsed g → left b g m d ≤ fan_of b
left_high b g m d u =
    let s : left b g m d ≤ left_from b (rank stage.End - rank g) = left_from_step b g m d u (used_low g u) in
    let t : left_from b (rank stage.End - rank g) ≤ left_from b (rank stage.End) = left_from_falls b (rank stage.End - rank g) (rank stage.End) (omega arith) in
    omega (arith, fan_low b)
