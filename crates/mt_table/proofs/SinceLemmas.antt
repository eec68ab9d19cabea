-- The last event at which a value changed, over one event more.
use Rattle.std.proofs.Common.{◌≡◌, ◌≢◌, ℕ, zero, suc, ◌+◌, ◌-◌, ◌<◌, ◌≤◌, ◌⊎◌, ⊎_elim, inl, inr, List, [], ◌∷◌, ◌++◌, length, get_or, take, replicate, refl, sym, ◌∙◌, subst, arith, length-append}
use Rattle.std.proofs.lemmas.Bool.{cases_lt}
use Rattle.std.proofs.lemmas.List.{take-append-le, take_all}
use Rattle.mt_cells.specs.declared.bounds.Bounds.{Bounds}
use Rattle.mt_cells.specs.declared.cells.Cell.{Cell}
use Rattle.mt_cells.specs.declared.rules.RuleSet.{RuleSet}
use Rattle.mt_cells.specs.Cells.{InBounds, number, cells_of}
use Rattle.mt_cells.proofs.CellLemmas.{number_below}
use Rattle.mt_derive.specs.declared.events.Event.{Event}
use Rattle.mt_derive.specs.Events.{entries_of}
use Rattle.mt_derive.specs.Trees.{IsValue}
use Rattle.mt_derive.specs.Values.{IsChanged, AreChanged, Changes, IsSince}
use Rattle.mt_derive.proofs.TreeLemmas.{IsValue-unique}
use Rattle.mt_table.specs.declared.work.Work.{Work}
use Rattle.mt_table.specs.Works.{value_in}
use Rattle.mt_table.specs.Fixed.{IsFixed, AreSinces}
use Rattle.mt_table.specs.Marks.{IsMarked, AreOther}

-- ---- one cell

module _ (b : Bounds) (rules : RuleSet) (E : List Event) (e : Event) (c : Cell) where
  count : length (E ++ e ∷ []) ≡ length E + 1
  count = length-append E (e ∷ [])

  -- the first events are as before
  front : (n : ℕ) → n ≤ length E → take n (E ++ e ∷ []) ≡ take n E
  front n h = take-append-le n E (e ∷ []) h

  before : (n : ℕ) → n ≡ length E + 1 → take (n - 1) (E ++ e ∷ []) ≡ E
  before n is = front (n - 1) (omega arith) ∙ take_all (n - 1) E (omega arith)

  after : (n : ℕ) → n ≡ length E + 1 → take n (E ++ e ∷ []) ≡ E ++ e ∷ []
  after n is = take_all n (E ++ e ∷ []) (omega (arith, count))

  earlier : (n : ℕ) → n ≤ length E → Changes b rules (E ++ e ∷ []) c n → Changes b rules E c n
  earlier n h x = record {
    old = x.old;
    new = x.new;
    before = subst (λ F. IsValue b rules (entries_of F) c x.old) (front (n - 1) (omega arith)) x.before;
    after = subst (λ F. IsValue b rules (entries_of F) c x.new) (front n h) x.after;
    differ = x.differ;
  }

  later : (n : ℕ) → n ≤ length E → Changes b rules E c n → Changes b rules (E ++ e ∷ []) c n
  later n h x = record {
    old = x.old;
    new = x.new;
    before = subst (λ F. IsValue b rules (entries_of F) c x.old) (sym (front (n - 1) (omega arith))) x.before;
    after = subst (λ F. IsValue b rules (entries_of F) c x.new) (sym (front n h)) x.after;
    differ = x.differ;
  }

  module _ (old new : ℕ) (was : IsValue b rules (entries_of E) c old) (is : IsValue b rules (entries_of (E ++ e ∷ [])) c new) where
    differs : (n : ℕ) → n ≡ length E + 1 → old ≡ new → Changes b rules (E ++ e ∷ []) c n → ⊥
    differs n p same x =
        let first : x.old ≡ old = IsValue-unique b rules (entries_of E) c x.old old (subst (λ F. IsValue b rules (entries_of F) c x.old) (before n p) x.before) was in
        let second : x.new ≡ new = IsValue-unique b rules (entries_of (E ++ e ∷ [])) c x.new new (subst (λ F. IsValue b rules (entries_of F) c x.new) (after n p) x.after) is in
        x.differ (first ∙ same ∙ sym second)

    changes : (n : ℕ) → n ≡ length E + 1 → old ≢ new → Changes b rules (E ++ e ∷ []) c n
    changes n p apart = record {
      old = old;
      new = new;
      before = subst (λ F. IsValue b rules (entries_of F) c old) (sym (before n p)) was;
      after = subst (λ F. IsValue b rules (entries_of F) c new) (sym (after n p)) is;
      differ = apart;
    }

    -- the last change is as before, or this event
    pub since_next : (s t : ℕ) → IsSince b rules E c s → ((old ≡ new) × (t ≡ s)) ⊎ ((old ≢ new) × (t ≡ length E + 1)) → IsSince b rules (E ++ e ∷ []) c t
    since_next s t since (inl same) = record {
      within = omega (arith, count, since.within, same.1);
      changed = λ h. subst (λ n. Changes b rules (E ++ e ∷ []) c n) (sym same.1) (later s since.within (since.changed (omega (arith, same.1))));
      last = λ i h l x. ⊎_elim
          (λ (k : i < length E + 1). since.last i (omega (arith, same.1)) (omega arith) (earlier i (omega arith) x))
          (λ (k : length E + 1 ≤ i). differs i (omega (arith, count)) same.0 x)
          (cases_lt i (length E + 1));
    }
    since_next s t since (inr apart) = record {
      within = omega (arith, count, apart.1);
      changed = λ h. changes t apart.1 apart.0;
      last = λ i h l x. absurd (omega (arith, count, apart.1));
    }

-- ---- all cells

zeros : (n k : ℕ) → ◌≡◌ {A = ℕ} (get_or (replicate n 0) k 0) 0
zeros zero k = refl
zeros (suc n) zero = refl
zeros (suc n) (suc k) = zeros n k

-- over no events none changed
pub sinces_none : (b : Bounds) (rules : RuleSet) (sinces : List ℕ) (n : ℕ) → sinces ≡ replicate n 0 → AreSinces b rules [] sinces
sinces_none b rules sinces n is c h = rw (is, zeros n (number b c)) (record {
  within = omega arith;
  changed = λ l. absurd (omega arith);
  last = λ i l k x. absurd (omega arith);
})

module _ (v w : Work) (E : List Event) (e : Event) (same_bounds : w.bounds ≡ v.bounds) (same_rules : w.rules ≡ v.rules) (f : IsFixed v (entries_of E)) (g : IsFixed w (entries_of (E ++ e ∷ []))) where
  new_value : (c : Cell) → InBounds v.bounds c → IsValue v.bounds v.rules (entries_of (E ++ e ∷ [])) c (get_or w.values.items (number v.bounds c) 0)
  new_value c h = rw (same_bounds, same_rules) at (g.values c (rw same_bounds h))

  pub sinces_next : (first then : List ℕ) (event : ℕ) → event ≡ length E + 1 → AreSinces v.bounds v.rules E first
      → ((n : ℕ) → n < cells_of v.bounds → IsMarked v.values.items w.values.items first then event n) → AreSinces v.bounds v.rules (E ++ e ∷ []) then
  sinces_next first then event is old marked c h =
      since_next v.bounds v.rules E e c (value_in v c) (get_or w.values.items (number v.bounds c) 0) (f.values c h) (new_value c h) _ _ (old c h)
      (moved (marked (number v.bounds c) (number_below v.bounds c h)))
    where
      moved : IsMarked v.values.items w.values.items first then event (number v.bounds c)
          → ((value_in v c ≡ get_or w.values.items (number v.bounds c) 0) × (get_or then (number v.bounds c) 0 ≡ get_or first (number v.bounds c) 0))
          ⊎ ((value_in v c ≢ get_or w.values.items (number v.bounds c) 0) × (get_or then (number v.bounds c) 0 ≡ length E + 1))
      moved (inl x) = inl x
      moved (inr x) = inr (x.0, x.1 ∙ is)

  -- the cells whose values are others are those that changed
  pub changed_next : (cells : List Cell) → AreOther v.bounds v.values.items w.values.items (cells_of v.bounds) cells → AreChanged v.bounds v.rules E (E ++ e ∷ []) cells
  changed_next cells k = record {
    ascending = k.ascending;
    each = λ c. (λ h. there c ((k.each c).0 h), λ h. (k.each c).1 (back c h.0 h.1));
  }
    where
      there : (c : Cell) → InBounds v.bounds c × (number v.bounds c < cells_of v.bounds) × (value_in v c ≢ get_or w.values.items (number v.bounds c) 0)
          → InBounds v.bounds c × IsChanged v.bounds v.rules E (E ++ e ∷ []) c
      there c h = (
        h.0,
        record {
          old = value_in v c;
          new = get_or w.values.items (number v.bounds c) 0;
          before = f.values c h.0;
          after = new_value c h.0;
          differ = h.2;
        },
      )

      back : (c : Cell) → InBounds v.bounds c → IsChanged v.bounds v.rules E (E ++ e ∷ []) c
          → InBounds v.bounds c × (number v.bounds c < cells_of v.bounds) × (value_in v c ≢ get_or w.values.items (number v.bounds c) 0)
      back c h x =
          let before_is : x.old ≡ value_in v c = IsValue-unique v.bounds v.rules (entries_of E) c x.old (value_in v c) x.before (f.values c h) in
          let after_is : x.new ≡ get_or w.values.items (number v.bounds c) 0 = IsValue-unique v.bounds v.rules (entries_of (E ++ e ∷ [])) c x.new _ x.after (new_value c h) in
          (h, number_below v.bounds c h, λ same. x.differ (before_is ∙ same ∙ sym after_is))
