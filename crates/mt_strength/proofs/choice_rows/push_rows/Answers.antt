use Rattle.std.proofs.Common.{◌≡◌, inl, inr, ℕ, ◌+◌, ◌-◌, List, [], ◌∷◌, ◌++◌, length, take, sym, ap, ap₂, ◌∙◌, subst, arith, append_assoc, add-one, length-take}
use Rattle.std.proofs.lemmas.Bool.{cases_lt}
use Rattle.std.proofs.lemmas.List.{map_push, length-take-le, get_or-take, get_or_past}
use Rattle.std.proofs.lemmas.List.Elements.{All-push}
use Rattle.mt_linear.specs.declared.order.Order.{Order}
use Rattle.mt_linear.specs.Linear.{AllElements}
use Rattle.mt_linear.specs.Vectors.{Digits}
use Rattle.mt_linear.proofs.FieldLaws.{number_pos}
use Rattle.mt_system.specs.Rows.{row_of, part_rows, first_rows}
use Rattle.mt_strength.specs.Dependence.{lists_of, AllOf, IsVector}
use Rattle.mt_strength.proofs.choice_rows.push_rows.Goals as goal

one_row_more : (R : ℕ → List ℕ) (j : ℕ) (start : List (List ℕ)) (rows all : List Digits) (v : Digits) → lists_of rows ≡ start ++ first_rows R j → all ≡ rows ++ v ∷ []
    → v.digits ≡ R j → lists_of all ≡ start ++ first_rows R (j + 1)
one_row_more R j start rows all v before is row =
    ap lists_of is ∙ map_push (λ (x : Digits). x.digits) rows v ∙ ap₂ (λ (xs : List (List ℕ)) (x : List ℕ). xs ++ x ∷ []) before row
    ∙ append_assoc start (first_rows R j) (R j ∷ []) ∙ ap (λ n. start ++ first_rows R n) (sym (add-one j))

AllElements-take : (o : Order) (n : ℕ) (v : List ℕ) → AllElements o v → AllElements o (take n v)
AllElements-take o n v h k =
    elim (cases_lt k n) [
      | inl l ↦ rw (get_or-take n v k 0 l) (h k)
      | inr l ↦ rw (get_or_past (take n v) k 0 (omega (arith, length-take n v))) (number_pos o)
    ]

pub loop-j-preserved : goal.loop-j-preserved
loop-j-preserved c =
    let row = c.row-row.result.now in
    let digits : c.of_elements.result.digits ≡ take c.args.width row = ap (λ (v : Digits). v.digits) c.of_elements.ensures ∙ c.in_ok-digits.ensures.items in
    let back : c.loop-j.j + 1 - 1 ≡ c.loop-j.j = omega arith in
    let is : IsVector c.args.system.now.order c.args.width c.of_elements.result = record {
      order = ap (λ (v : Digits). v.order) c.of_elements.ensures ∙ c.order.ensures.value;
      size = ap length digits ∙ length-take-le c.args.width row (omega (arith, c.row-row.ensures.size, c.requires.narrow));
      elements = subst (AllElements c.args.system.now.order) (sym digits) (AllElements-take c.args.system.now.order c.args.width row c.row-row.ensures.elements);
    } in
    record {
      added = one_row_more (part_rows c.args.system.now c.args.width (c.args.i - 1)) c.loop-j.j (lists_of c.args.rows.now.items) c.loop-j.rows.items _ c.of_elements.result
          c.loop-j.invariant.added c.in_ok-push.ensures.items
          (digits ∙ ap (take c.args.width) (c.row-row.ensures.value ∙ ap (row_of c.args.system.now (c.args.i - 1)) back));
      all = subst (AllOf c.args.system.now.order c.args.width) (sym c.in_ok-push.ensures.items)
          (All-push (IsVector c.args.system.now.order c.args.width) c.loop-j.rows.items c.of_elements.result c.loop-j.invariant.all is);
    }
