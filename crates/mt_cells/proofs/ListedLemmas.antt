-- The instances from a spot on, as a list.
use Rattle.std.proofs.Common.{eqb, ◌&&◌, leb, ℕ, suc, ◌≡◌, ◌+◌, ◌-◌, ◌/◌, ◌%◌, ◌≤◌, ◌<◌, ◌≢◌, ap, refl, arith, sym, ◌∙◌, ⊎_elim, ◌⊎◌, inl, inr, Bool, true, false, [], ◌∷◌, length}
use Rattle.std.specs.Bool.{Decides}
use Rattle.std.proofs.lemmas.Bool.{cases_lt, cases_Bool, leb-true, le-leb, eqb-true, eq-eqb, and_parts, and_from}
use Rattle.std.proofs.lemmas.Bool.Decides.{Decides-and, Decides-not, Decides-eqb, Decides-like}
use Rattle.mt_cells.specs.declared.bounds.Bounds.{Bounds}
use Rattle.mt_cells.specs.declared.cells.Cell.{Cell}
use Rattle.mt_cells.specs.declared.cells.Cell.TheVariants.{Ooa, Seq}
use Rattle.mt_cells.specs.declared.rules.Rule.{Rule}
use Rattle.mt_cells.specs.declared.rules.RuleSet.{RuleSet}
use Rattle.mt_cells.specs.declared.instances.Instance.{Instance}
use Rattle.mt_cells.specs.declared.lines.Stage.{Stage}
use Rattle.mt_cells.specs.declared.lines.Stage.TheVariants as stage
use Rattle.mt_cells.specs.declared.lines.Line.{Line}
use Rattle.mt_cells.specs.declared.lines.Lines.{Lines}
use Rattle.mt_linear.specs.declared.order.Order.{Order}
use Rattle.mt_cells.specs.Cells.{InBounds, order_of}
use Rattle.mt_cells.specs.Rules.{has_target, has_pair_target}
use Rattle.mt_cells.specs.Instances.{has_rule, IsInstance, HasParent, fan_of, IsListing}
use Rattle.mt_cells.specs.Spots.{rank, stage_of, key, spot_number, end_number, IsPosition, IsSingleSpot, IsPair, other, IsSpot, instance_at, width, IsRightLine}
use Rattle.mt_cells.specs.Listed.{picked, is_single_spot, is_other, is_array, is_pair, is_spot, is_numbered, instance_numbered, instances_from, instances_left, IsCursor}
use Rattle.mt_cells.proofs.SpotLemmas.{others_same, rank_high, position_small, stage_back, key_apart, Stands, stands, holds, parent, placed, same_spot}
use Rattle.mt_cells.proofs.CountLemmas.{left_in, left, used_low, left_falls, left_high, width_fits}
use Rattle.mt_cells.proofs.PickedLemmas.{picked_here, picked_skip, picked_none, picked_all, picked_each, picked_once, picked_few}

-- ---- the tests

-- the test of numbers decides their order
le_decides : (a b : ℕ) → Decides (leb a b) (a ≤ b)
le_decides a b = (leb-true a b, le-leb a b)

-- what is false decides what never holds
never_decides : Decides false ⊥
never_decides = (λ h. cc, λ h. absurd h)

same_decides : (x : Bool) → Decides x (x ≡ true)
same_decides x = (λ h. h, λ h. h)

single_decides : (b : Bounds) (rules : RuleSet) (rule : Rule) (c : Cell) (m d s : ℕ) → Decides (is_single_spot b rules rule c m d s) (IsSingleSpot b rules rule c m d s)
single_decides b rules rule c m d s =
    Decides-like _ (λ h. (h.0, h.1.0, h.1.1.0, h.1.1.1.0, h.1.1.1.1)) (λ h. (h.0, (h.1, (h.2, (h.3, h.4)))))
    (Decides-and _ _ (same_decides (has_rule rules rule)) (Decides-and _ _ (same_decides (has_target b rule c)) (Decides-and _ _ (Decides-eqb m 1) (Decides-and _ _ (Decides-eqb d 1) (Decides-eqb s 1)))))

array_decides : (b : Bounds) (o : Order) (m d s : ℕ) → Decides (is_array b m d s) (InBounds b (Ooa o m s d))
array_decides b o m d s =
    Decides-like _ (λ h. (h.0, h.1.0, h.1.1.0, h.1.1.1.0, h.1.1.1.1.0, h.1.1.1.1.1)) (λ h. (h.0, (h.1, (h.2, (h.3, (h.4, h.5))))))
    (Decides-and _ _ (le_decides 1 m) (Decides-and _ _ (le_decides m b.m_max) (Decides-and _ _ (le_decides 1 s) (Decides-and _ _ (le_decides s b.s_max) (Decides-and _ _ (le_decides 1 d) (le_decides d m))))))

pair_decides : (b : Bounds) (rules : RuleSet) (rule : Rule) (p q : Cell) → Decides (is_pair b rules rule p q) (IsPair b rules rule p q)
pair_decides b rules rule p q = Decides-and _ _ (same_decides (has_rule rules rule)) (same_decides (has_pair_target b rule p q))

other_decides : (c : Cell) (m d s : ℕ) → Decides (is_other c m d s) (other c m d s ≢ c)
other_decides (Ooa o n t e) m d s =
    Decides-like _ (λ h x. let same = others_same (Ooa o n t e) m d s n e t x in h (same.0, (same.1, same.2))) (λ h x. h (cc (x.0, x.1.0, x.1.1))) (Decides-not _ (Decides-and _ _ (Decides-eqb m n) (Decides-and _ _ (Decides-eqb d e) (Decides-eqb s t))))
other_decides (Seq o n t) m d s = (λ h x. cc, λ h. refl)

second_decides : (b : Bounds) (rules : RuleSet) (rule : Rule) (c : Cell) (m d s : ℕ)
    → Decides (is_array b m d s && (is_pair b rules rule (other c m d s) c && is_other c m d s)) (InBounds b (other c m d s) × IsPair b rules rule (other c m d s) c × (other c m d s ≢ c))
second_decides b rules rule c m d s =
    Decides-like _ (λ h. (h.0, h.1.0, h.1.1)) (λ h. (h.0, (h.1, h.2))) (Decides-and _ _ (array_decides b (order_of c) m d s) (Decides-and _ _ (pair_decides b rules rule (other c m d s) c) (other_decides c m d s)))

-- the test of a spot decides whether it holds an instance
spot_decides : (b : Bounds) (rules : RuleSet) (c : Cell) (g : Stage) (m d s : ℕ) → Decides (is_spot b rules c g m d s) (IsSpot b rules c g m d s)
spot_decides b rules c (stage.Single r) m d s = single_decides b rules r c m d s
spot_decides b rules c (stage.First r) m d s = Decides-and _ _ (array_decides b (order_of c) m d s) (pair_decides b rules r c (other c m d s))
spot_decides b rules c (stage.Second r) m d s = second_decides b rules r c m d s
spot_decides b rules c stage.End m d s = never_decides

-- ---- spots and their numbers

-- n is the number of the spot
pub record Parts (n : ℕ) (g : Stage) (m d s : ℕ) : Type 0 where
  pub stage_is : stage_of (n / 65536) ≡ g
  pub m_is : n / 2048 % 32 ≡ m
  pub d_is : n / 64 % 32 ≡ d
  pub s_is : n % 64 ≡ s
  pub number_is : n ≡ spot_number g m d s

-- a number that passes the test is that of a spot
pub record Numbered (b : Bounds) (rules : RuleSet) (c : Cell) (n : ℕ) : Type 0 where
  pub g : Stage
  pub m : ℕ
  pub d : ℕ
  pub s : ℕ
  pub parts : Parts n g m d s
  pub spot : IsSpot b rules c g m d s
  pub is : instance_numbered c n ≡ instance_at c g m d s

pub numbered : (b : Bounds) (rules : RuleSet) (c : Cell) (n : ℕ) → is_numbered b rules c n ≡ true → Numbered b rules c n
numbered b rules c n h =
    let both = and_parts (eqb (rank (stage_of (n / 65536))) (n / 65536)) (is_spot b rules c (stage_of (n / 65536)) (n / 2048 % 32) (n / 64 % 32) (n % 64)) h in
    let ranked : rank (stage_of (n / 65536)) ≡ n / 65536 = eqb-true _ _ both.0 in
    record {
      g = stage_of (n / 65536);
      m = n / 2048 % 32;
      d = n / 64 % 32;
      s = n % 64;
      parts = record { stage_is = refl; m_is = refl; d_is = refl; s_is = refl; number_is = omega arith };
      spot = (spot_decides b rules c (stage_of (n / 65536)) (n / 2048 % 32) (n / 64 % 32) (n % 64)).0 both.1;
      is = refl;
    }

parts_of : (n : ℕ) (g : Stage) (m d s : ℕ) → m < 32 → d < 32 → s < 64 → n ≡ spot_number g m d s → Parts n g m d s
parts_of n g m d s a b e h =
    let r : n / 65536 ≡ rank g = omega arith in
    record { stage_is = ap stage_of r ∙ stage_back g; m_is = omega arith; d_is = omega arith; s_is = omega arith; number_is = h }

-- the lines of each stage are short
width_small : (b : Bounds) (g : Stage) → width b g < 63
width_small b (stage.Single r) = omega arith
width_small b stage.End = omega arith
width_small b g = let high = b.s_high in omega arith

-- the number of a spot passes the test, and gives its instance
pub numbered_back : (b : Bounds) (rules : RuleSet) (c : Cell) (g : Stage) (m d s n : ℕ) → InBounds b c → IsSpot b rules c g m d s → n ≡ spot_number g m d s → (is_numbered b rules c n ≡ true) × (instance_numbered c n ≡ instance_at c g m d s)
numbered_back b rules c g m d s n h p e =
    let st = stands b rules c g m d s h p in
    let w : width b g < 63 = width_small b g in
    let small : m < 32 = st.m_small in
    let small' : d < 32 = st.depth_small in
    let low : s < 64 = let k : s ≤ width b g = st.high in omega arith in
    let q = parts_of n g m d s small small' low e in
    let whole : n / 65536 ≡ rank g = omega arith in
    let ranked : eqb (rank (stage_of (n / 65536))) (n / 65536) ≡ true = eq-eqb _ _ (ap rank q.stage_is ∙ sym whole) in
    (and_from _ _ ranked (rw (q.stage_is, q.m_is, q.d_is, q.s_is) ((spot_decides b rules c g m d s).1 p)), rw (q.stage_is, q.m_is, q.d_is, q.s_is) refl)

-- a spot has a number below the end
pub number_low : (b : Bounds) (rules : RuleSet) (c : Cell) (g : Stage) (m d s : ℕ) → InBounds b c → IsSpot b rules c g m d s → spot_number g m d s < end_number
number_low b rules c g m d s h p =
    let st = stands b rules c g m d s h p in
    let w : width b g < 63 = width_small b g in
    let r : rank g < rank stage.End = used_low g st.used in
    let a : m < 32 = st.m_small in
    let a' : d < 32 = st.depth_small in
    let k : s ≤ width b g = st.high in
    omega arith

-- ---- the list

-- how many spots do not stand before the one of this number
fall : Bounds → ℕ → ℕ
fall b n = left b (stage_of (n / 65536)) (n / 2048 % 32) (n / 64 % 32) + 1 - n % 64

fall_is : (b : Bounds) (n : ℕ) (g : Stage) (m d s : ℕ) → Parts n g m d s → fall b n ≡ left b g m d + 1 - s
unfolding fall
fall_is b n g m d s p = rw (p.stage_is, p.m_is, p.d_is, p.s_is) refl

-- in the order of numbers fewer and fewer spots are left
fall_later : (b : Bounds) (g h : Stage) (m d s n e t : ℕ) → Stands b g m d s → Stands b h n e t → spot_number g m d s < spot_number h n e t → left b h n e + 1 - t < left b g m d + 1 - s
fall_later b g h m d s n e t p q l =
    let w : width b g ≤ left_in b g m d = width_fits b g m d p.position in
    let w' : width b h ≤ left_in b h n e = width_fits b h n e q.position in
    let k : width b g < 63 = width_small b g in
    let k' : width b h < 63 = width_small b h in
    let a : s ≤ width b g = p.high in
    let a' : t ≤ width b h = q.high in
    let f : 1 ≤ t = q.low in
    ⊎_elim
    (λ (x : key g m d < key h n e). let r : left b h n e + width b g ≤ left b g m d = left_falls b g h m d n e q.used p.position q.position x in omega arith)
    (λ (x : key h n e ≤ key g m d).
    let same = key_apart g h m d n e p.m_small p.depth_small q.m_small q.depth_small (omega arith) in
    let r : left b g m d ≡ left b h n e = rw (same.0, same.1, same.2) refl in
    omega arith)
    (cases_lt (key g m d) (key h n e))

listed_few : (b : Bounds) (rules : RuleSet) (c : Cell) (n start : ℕ) → InBounds b c → length (picked (is_numbered b rules c) (instance_numbered c) n start) ≤ fan_of b
listed_few b rules c n start inb = picked_few (is_numbered b rules c) (instance_numbered c) (fall b) n start (fan_of b)
    (λ i j l t u. let p = numbered b rules c i t in let q = numbered b rules c j u in
    rw (fall_is b i p.g p.m p.d p.s p.parts, fall_is b j q.g q.m q.d q.s q.parts) (fall_later b p.g q.g p.m p.d p.s q.m q.d q.s (stands b rules c p.g p.m p.d p.s inb p.spot) (stands b rules c q.g q.m q.d q.s inb q.spot) (let e = p.parts.number_is in let e' = q.parts.number_is in omega arith)))
    (λ j l t. let p = numbered b rules c j t in
    let st = stands b rules c p.g p.m p.d p.s inb p.spot in
    let w : width b p.g ≤ left_in b p.g p.m p.d = width_fits b p.g p.m p.d st.position in
    let top : left b p.g p.m p.d ≤ fan_of b = left_high b p.g p.m p.d st.used in
    let high : p.s ≤ width b p.g = st.high in
    let low : 1 ≤ p.s = st.low in
    rw (fall_is b j p.g p.m p.d p.s p.parts) (omega arith, omega arith))

-- from a number on that no spot stands before it is the list of all instances with this parent
pub is_listing : (b : Bounds) (rules : RuleSet) (c : Cell) (start : ℕ) → InBounds b c
    → ((h : Stage) (n e t : ℕ) → IsSpot b rules c h n e t → start ≤ spot_number h n e t)
    → IsListing b rules c (instances_from b rules c start)
unfolding instances_from
is_listing b rules c start inb first = record {
  only = picked_all (is_numbered b rules c) (instance_numbered c) (λ i. IsInstance b rules i × HasParent c i) _ _ (λ j l t. let q = numbered b rules c j t in rw q.is (holds b rules c q.g q.m q.d q.s inb q.spot, parent b rules c q.g q.m q.d q.s q.spot));
  each = λ i k p. let q = placed b rules c i inb k p in
      let t = numbered_back b rules c q.g q.m q.d q.s (spot_number q.g q.m q.d q.s) inb q.spot refl in
      let low : spot_number q.g q.m q.d q.s < end_number = number_low b rules c q.g q.m q.d q.s inb q.spot in
      let here : start ≤ spot_number q.g q.m q.d q.s = first q.g q.m q.d q.s q.spot in
      rw (t.1 ∙ q.is) at (picked_each (is_numbered b rules c) (instance_numbered c) (end_number - start) start (spot_number q.g q.m q.d q.s) here (omega arith) t.0);
  once = picked_once (is_numbered b rules c) (instance_numbered c) _ _ (λ i j l t u e. let p = numbered b rules c i t in let q = numbered b rules c j u in
      let same = same_spot b rules c p.g q.g p.m p.d p.s q.m q.d q.s p.spot q.spot (sym p.is ∙ e ∙ q.is) in
      let r : rank p.g ≡ rank q.g = ap rank same.0 in
      let n : i ≡ spot_number p.g p.m p.d p.s = p.parts.number_is in
      let n' : j ≡ spot_number q.g q.m q.d q.s = q.parts.number_is in
      let a : p.m ≡ q.m = same.1 in
      let a' : p.d ≡ q.d = same.2 in
      let a'' : p.s ≡ q.s = same.3 in
      omega arith);
  few = listed_few b rules c (end_number - start) start inb;
}

-- the same of the lines' own start
pub is_listing_of : (b : Bounds) (rules : RuleSet) (c : Cell) (lines : Lines) (line : Line) (s : ℕ) → lines.bounds ≡ b → lines.rules ≡ rules → lines.cell ≡ c → InBounds b c
    → spot_number line.stage line.m line.depth s ≤ 64 → ((h : Stage) (n e t : ℕ) → IsSpot b rules c h n e t → 64 ≤ spot_number h n e t) → IsListing b rules c (instances_left lines line s)
is_listing_of b rules c lines line s eb er ec inb low first = rw (eb, er, ec) (is_listing b rules c _ inb (λ h n e t p. let q = first h n e t p in omega arith))

-- ---- the list from one spot to the next

no_number : (b : Bounds) (rules : RuleSet) (c : Cell) (j : ℕ) → (Numbered b rules c j → ⊥) → is_numbered b rules c j ≡ false
no_number b rules c j h = ⊎_elim (λ (e : is_numbered b rules c j ≡ true). absurd (h (numbered b rules c j e))) (λ (e : is_numbered b rules c j ≡ false). e) (cases_Bool (is_numbered b rules c j))

pub listed_here : (b : Bounds) (rules : RuleSet) (c : Cell) (g : Stage) (m d s n : ℕ) → InBounds b c → IsSpot b rules c g m d s → n ≡ spot_number g m d s → instances_from b rules c n ≡ instance_at c g m d s ∷ instances_from b rules c (n + 1)
unfolding instances_from
listed_here b rules c g m d s n inb p e =
    let t = numbered_back b rules c g m d s n inb p e in
    let low : spot_number g m d s < end_number = number_low b rules c g m d s inb p in
    let count : end_number - n ≡ suc (end_number - (n + 1)) = omega arith in
    rw count (picked_here (is_numbered b rules c) (instance_numbered c) (end_number - (n + 1)) n t.0 ∙ ap (λ (i : Instance). i ∷ picked (is_numbered b rules c) (instance_numbered c) (end_number - (n + 1)) (n + 1)) t.1)

pub listed_none : (b : Bounds) (rules : RuleSet) (c : Cell) (n : ℕ) → ((h : Stage) (k e t : ℕ) → IsSpot b rules c h k e t → n ≤ spot_number h k e t → ⊥) → instances_from b rules c n ≡ []
unfolding instances_from
listed_none b rules c n h = picked_none (is_numbered b rules c) (instance_numbered c) (end_number - n) n (λ j l. no_number b rules c j (λ q. h q.g q.m q.d q.s q.spot (let e = q.parts.number_is in omega arith)))

skipped : (b : Bounds) (rules : RuleSet) (c : Cell) (n n' : ℕ) → n ≤ n' → n' ≤ end_number → ((h : Stage) (k e t : ℕ) → IsSpot b rules c h k e t → n ≤ spot_number h k e t → n' ≤ spot_number h k e t) → instances_from b rules c n ≡ instances_from b rules c n'
unfolding instances_from
skipped b rules c n n' l near h =
    let count : end_number - n ≡ (n' - n) + (end_number - n') = omega arith in
    let there : n + (n' - n) ≡ n' = omega arith in
    rw count (rw there at (picked_skip (is_numbered b rules c) (instance_numbered c) (n' - n) (end_number - n') n (λ j a a'. no_number b rules c j (λ q. let e = q.parts.number_is in let high = h q.g q.m q.d q.s q.spot (omega arith) in omega arith))))

-- numbers without a spot may be left out
pub listed_skip : (b : Bounds) (rules : RuleSet) (c : Cell) (n n' : ℕ) → InBounds b c → n ≤ n' → ((h : Stage) (k e t : ℕ) → IsSpot b rules c h k e t → n ≤ spot_number h k e t → n' ≤ spot_number h k e t) → instances_from b rules c n ≡ instances_from b rules c n'
listed_skip b rules c n n' inb l h = ⊎_elim
    (λ (far : end_number < n'). listed_none b rules c n (λ g m d s p k. let low : spot_number g m d s < end_number = number_low b rules c g m d s inb p in let high = h g m d s p k in omega arith) ∙ sym (listed_none b rules c n' (λ g m d s p k. let low : spot_number g m d s < end_number = number_low b rules c g m d s inb p in omega arith)))
    (λ (near : n' ≤ end_number). skipped b rules c n n' l near h)
    (cases_lt end_number n')

-- ---- the cursor

-- a spot from the cursor on stands in its line or in a later one
cursor_cases : (lines : Lines) (line : Line) (s : ℕ) (h : Stage) (n e t : ℕ) → IsCursor lines line s → IsSpot lines.bounds lines.rules lines.cell h n e t → spot_number line.stage line.m line.depth s ≤ spot_number h n e t
    → (IsSpot lines.bounds lines.rules lines.cell line.stage line.m line.depth t × (s ≤ t) × (spot_number h n e t ≡ spot_number line.stage line.m line.depth t)) ⊎ (key lines.stage lines.m lines.depth ≤ key h n e)
cursor_cases lines line s h n e t c p l =
    let st = stands lines.bounds lines.rules lines.cell h n e t lines.inside p in
    let w : width lines.bounds h < 63 = width_small lines.bounds h in
    let high : t ≤ width lines.bounds h = st.high in
    ⊎_elim
    (λ (x : key line.stage line.m line.depth < key h n e). inr (c.ahead h n e t p x))
    (λ (x : key h n e ≤ key line.stage line.m line.depth).
    let same = key_apart h line.stage n e line.m line.depth st.m_small st.depth_small c.m_small c.depth_small (let z : s ≤ 63 = c.high in omega arith) in
    inl (rw (same.0, same.1, same.2) at p, let r : rank h ≡ rank line.stage = ap rank same.0 in let a : n ≡ line.m = same.1 in let a' : e ≡ line.depth = same.2 in (omega arith), rw (same.0, same.1, same.2) refl))
    (cases_lt (key line.stage line.m line.depth) (key h n e))

module _ (lines : Lines) (line : Line) (s : ℕ) (c : IsCursor lines line s) where
  cursor_step : s ≤ line.last → IsCursor lines line (s + 1)
  cursor_step l = let z : line.last < 63 = c.last_small in let f : line.first ≤ s = c.from in record { right = c.right; m_small = c.m_small; depth_small = c.depth_small; last_small = c.last_small; from = omega arith; high = omega arith; before = c.before; ahead = c.ahead }

  -- no spot is skipped
  pub cursor_skip : s ≡ line.skip → s ≤ line.last → IsCursor lines line (s + 1) × (instances_left lines line s ≡ instances_left lines line (s + 1))
  cursor_skip e l = (
    cursor_step l,
    listed_skip lines.bounds lines.rules lines.cell _ _ lines.inside (omega arith) (λ h n k t p m. ⊎_elim
        (λ (w : IsSpot lines.bounds lines.rules lines.cell line.stage line.m line.depth t × (s ≤ t) × (spot_number h n k t ≡ spot_number line.stage line.m line.depth t)). let r = (c.right.spots t).0 w.0 in let a : s ≤ t = w.1 in let a' : t ≢ line.skip = r.2 in let q : spot_number h n k t ≡ spot_number line.stage line.m line.depth t = w.2 in omega arith)
        (λ (w : key lines.stage lines.m lines.depth ≤ key h n k). let b : key line.stage line.m line.depth < key lines.stage lines.m lines.depth = c.before in let z : line.last < 63 = c.last_small in omega arith)
        (cursor_cases lines line s h n k t c p m)),
  )

  -- the spot that the cursor is at
  pub cursor_here : s ≢ line.skip → s ≤ line.last → IsSpot lines.bounds lines.rules lines.cell line.stage line.m line.depth s × IsCursor lines line (s + 1) × (instances_left lines line s ≡ instance_at lines.cell line.stage line.m line.depth s ∷ instances_left lines line (s + 1))
  cursor_here ne l =
      let p = (c.right.spots s).1 (c.from, l, ne) in
      let e : spot_number line.stage line.m line.depth s + 1 ≡ spot_number line.stage line.m line.depth (s + 1) = omega arith in
      (p, cursor_step l, rw e at (listed_here lines.bounds lines.rules lines.cell line.stage line.m line.depth s (spot_number line.stage line.m line.depth s) lines.inside p refl))

  pub cursor_low : spot_number line.stage line.m line.depth s < end_number + 65536
  cursor_low =
      let b : key line.stage line.m line.depth < key lines.stage lines.m lines.depth = c.before in
      let z : s ≤ 63 = c.high in
      let r : rank lines.stage ≤ rank stage.End = rank_high lines.stage in
      let small = position_small lines.bounds lines.stage lines.m lines.depth lines.position in
      omega arith

  -- past the end of the line every spot stands in a later line
  later_lines : line.last < s → (h : Stage) (n e t : ℕ) → IsSpot lines.bounds lines.rules lines.cell h n e t → spot_number line.stage line.m line.depth s ≤ spot_number h n e t → key lines.stage lines.m lines.depth ≤ key h n e
  later_lines l h n e t p m = ⊎_elim
      (λ (w : IsSpot lines.bounds lines.rules lines.cell line.stage line.m line.depth t × (s ≤ t) × (spot_number h n e t ≡ spot_number line.stage line.m line.depth t)). absurd (let r = (c.right.spots t).0 w.0 in let a : s ≤ t = w.1 in let a' : t ≤ line.last = r.1 in omega arith))
      (λ (w : key lines.stage lines.m lines.depth ≤ key h n e). w)
      (cursor_cases lines line s h n e t c p m)

  module _ (lines' : Lines) (eb : lines'.bounds ≡ lines.bounds) (er : lines'.rules ≡ lines.rules) (ec : lines'.cell ≡ lines.cell) (past : line.last < s) where
    -- no line is left
    pub cursor_end : ((g : Stage) (m d s : ℕ) → IsSpot lines.bounds lines.rules lines.cell g m d s → key lines.stage lines.m lines.depth ≤ key g m d → ⊥) → key lines.stage lines.m lines.depth ≤ key lines'.stage lines'.m lines'.depth
        → IsCursor lines' line s × (instances_left lines line s ≡ []) × (instances_left lines' line s ≡ [])
    cursor_end none later =
        let b : key line.stage line.m line.depth < key lines.stage lines.m lines.depth = c.before in
        let empty : instances_left lines line s ≡ [] = listed_none lines.bounds lines.rules lines.cell _ (λ h n e t p m. none h n e t p (later_lines past h n e t p m)) in (
          record {
            right = rw (eb, er, ec) c.right;
            m_small = c.m_small;
            depth_small = c.depth_small;
            last_small = c.last_small;
            from = c.from;
            high = c.high;
            before = omega arith;
            ahead = rw (eb, er, ec) (λ g m d t p x. absurd (none g m d t p (c.ahead g m d t p x)));
          },
          empty,
          rw (eb, er, ec) empty,
        )

    -- the next line
    pub cursor_next : (line' : Line) → IsPosition lines.bounds line'.stage line'.m line'.depth → IsRightLine lines.bounds lines.rules lines.cell line'.stage line'.m line'.depth line'
        → key lines.stage lines.m lines.depth ≤ key line'.stage line'.m line'.depth → key line'.stage line'.m line'.depth < key lines'.stage lines'.m lines'.depth → line'.first ≤ line'.last
        → ((g : Stage) (m d s : ℕ) → IsSpot lines.bounds lines.rules lines.cell g m d s → key lines.stage lines.m lines.depth ≤ key g m d → (key g m d ≡ key line'.stage line'.m line'.depth) ⊎ (key lines'.stage lines'.m lines'.depth ≤ key g m d))
        → IsCursor lines' line' line'.first × (instances_left lines line s ≡ instances_left lines' line' line'.first) × (spot_number line.stage line.m line.depth s < spot_number line'.stage line'.m line'.depth line'.first)
    cursor_next line' pos right after before' some passed =
        let b : key line.stage line.m line.depth < key lines.stage lines.m lines.depth = c.before in
        let z : s ≤ 63 = c.high in
        let w : width lines.bounds line'.stage < 63 = width_small lines.bounds line'.stage in
        let high : line'.last ≤ width lines.bounds line'.stage = right.last_high in
        let low : 1 ≤ line'.first = right.first_low in
        let small = position_small lines.bounds line'.stage line'.m line'.depth pos in (
          record {
            right = rw (eb, er, ec) right;
            m_small = small.0;
            depth_small = small.1;
            last_small = omega arith;
            from = omega arith;
            high = omega arith;
            before = before';
            ahead = rw (eb, er, ec) (λ g m d t p x. ⊎_elim (λ (q : key g m d ≡ key line'.stage line'.m line'.depth). absurd (omega arith)) (λ (q : key lines'.stage lines'.m lines'.depth ≤ key g m d). q) (passed g m d t p (omega arith)));
          },
          rw (eb, er, ec) (listed_skip lines.bounds lines.rules lines.cell _ _ lines.inside (omega arith) (λ h n e t p m.
              let st = stands lines.bounds lines.rules lines.cell h n e t lines.inside p in
              ⊎_elim
              (λ (q : key h n e ≡ key line'.stage line'.m line'.depth).
              let same = key_apart h line'.stage n e line'.m line'.depth st.m_small st.depth_small small.0 small.1 q in
              let r = (right.spots t).0 (rw (same.0, same.1, same.2) at p) in
              let f : line'.first ≤ t = r.0 in
              omega arith)
              (λ (q : key lines'.stage lines'.m lines'.depth ≤ key h n e). omega arith)
              (passed h n e t p (later_lines past h n e t p m)))),
          omega arith,
        )
