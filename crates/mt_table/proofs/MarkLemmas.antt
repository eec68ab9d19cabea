-- The cells whose values are others than before.
use Rattle.std.proofs.Common.{◌≡◌, ◌≢◌, ℕ, ◌+◌, ◌<◌, ◌≤◌, ⊎_elim, inl, inr, List, [], ◌∷◌, ◌++◌, length, get_or, sym, ◌∙◌, arith, get_or-set_same, get_or-set_other}
use Rattle.std.proofs.Math.ListN.{set}
use Rattle.std.proofs.lemmas.Bool.{cases_lt}
use Rattle.std.proofs.lemmas.List.Quantifiers.{all_pairs_push}
use Rattle.std.proofs.lemmas.List.Elements.{Contains-append_left, Contains-push_cases, Contains-push, Contains-get_or}
use Rattle.std.specs.Prelude.{Contains}
use Rattle.mt_cells.specs.declared.bounds.Bounds.{Bounds}
use Rattle.mt_cells.specs.declared.cells.Cell.{Cell}
use Rattle.mt_cells.specs.Cells.{InBounds, number}
use Rattle.mt_cells.proofs.CellLemmas.{number_apart}
use Rattle.mt_table.specs.Marks.{IsMarked, AreOther}

-- ---- marks

-- the numbers below n are marked, the others as they were
pub record AreMarked (old new before after : List ℕ) (event n : ℕ) : Type 0 where
  pub done : (j : ℕ) → j < n → IsMarked old new before after event j
  pub rest : (j : ℕ) → n ≤ j → get_or after j 0 ≡ get_or before j 0

pub marked_skip : (old new before after : List ℕ) (event n : ℕ) → get_or old n 0 ≡ get_or new n 0 → AreMarked old new before after event n → AreMarked old new before after event (n + 1)
marked_skip old new before after event n same m = record {
  done = λ j l. ⊎_elim
      (λ (k : j < n). m.done j k)
      (λ (k : n ≤ j). let q : j ≡ n = omega arith in rw q (inl (same, m.rest n (omega arith))))
      (cases_lt j n);
  rest = λ j l. m.rest j (omega arith);
}

pub marked_step : (old new before after : List ℕ) (event n : ℕ) → n < length after → get_or old n 0 ≢ get_or new n 0 → AreMarked old new before after event n → AreMarked old new before (set after n event) event (n + 1)
marked_step old new before after event n low apart m = record {
  done = λ j l. ⊎_elim
      (λ (k : j < n).
      let other : j ≢ n = λ e. absurd (omega arith) in
      rw (get_or-set_other after n j event 0 other) (m.done j k))
      (λ (k : n ≤ j). let q : j ≡ n = omega arith in rw q (inr (apart, get_or-set_same after n event 0 low)))
      (cases_lt j n);
  rest = λ j l.
      let other : j ≢ n = λ e. absurd (omega arith) in
      get_or-set_other after n j event 0 other ∙ m.rest j (omega arith);
}

-- ---- cells

-- one more cell, whose value is another
pub others_push : (b : Bounds) (old new : List ℕ) (n : ℕ) (c : Cell) (cells : List Cell) → InBounds b c → number b c ≡ n → get_or old n 0 ≢ get_or new n 0 → AreOther b old new n cells → AreOther b old new (n + 1) (cells ++ c ∷ [])
others_push b old new n c cells h is apart a = record {
  ascending = all_pairs_push (λ x y. number b x < number b y) cells c a.ascending (λ k d l. rw is ((a.each _).0 (Contains-get_or cells k d l)).1);
  each = λ x. (
    λ k. ⊎_elim
        (λ (l : Contains cells x). let y = (a.each x).0 l in (y.0, omega (arith, y.1), y.2))
        (λ (l : c ≡ x). rw (sym l, is) (h, omega arith, apart))
        (Contains-push_cases cells c x k),
    λ k. ⊎_elim
        (λ (l : number b x < n). Contains-append_left cells (c ∷ []) x ((a.each x).1 (k.0, l, k.2)))
        (λ (l : n ≤ number b x). let e : x ≡ c = number_apart b x c k.0 h (omega (arith, k.1, is)) in rw e (Contains-push cells c))
        (cases_lt (number b x) n),
  );
}

-- one more cell, whose value is as before
pub others_skip : (b : Bounds) (old new : List ℕ) (n : ℕ) (cells : List Cell) → get_or old n 0 ≡ get_or new n 0 → AreOther b old new n cells → AreOther b old new (n + 1) cells
others_skip b old new n cells same a = record {
  ascending = a.ascending;
  each = λ x. (
    λ k. let y = (a.each x).0 k in (y.0, omega (arith, y.1), y.2),
    λ k. ⊎_elim
        (λ (l : number b x < n). (a.each x).1 (k.0, l, k.2))
        (λ (l : n ≤ number b x). let e : number b x ≡ n = omega (arith, k.1) in absurd (k.2 (rw e same)))
        (cases_lt (number b x) n),
  );
}
