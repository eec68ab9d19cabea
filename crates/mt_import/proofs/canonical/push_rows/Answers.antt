use Rattle.std.proofs.Common.{◌≡◌, ℕ, ◌+◌, ◌<◌, ◌∷◌, ◌++◌, [], List, length, map, drop, min, All, refl, sym, ap, ◌∙◌, subst, append_assoc, append-nil}
use Rattle.std.proofs.lemmas.List.Elements.{All-drop}
use Rattle.std.proofs.lemmas.List.{drop_at}
use Rattle.std.specs.Slice.Iter.{chunks_rest}
use Rattle.mt_import.specs.Canonical.{rows_text}
use Rattle.mt_import.proofs.CanonicalLemmas.{next_row, no_row}
use Rattle.mt_import.proofs.canonical.push_rows.Goals as goal

pub loop-row-preserved : goal.loop-row-preserved
loop-row-preserved c =
    let before = c.loop-row.invariant in
    let steps = c.in-Some.ensures.steps in
    let m = c.args.m in
    let text = c.loop-row.text.items in
    let all = chunks_rest c.loop-row.row-iterator in
    let row = c.in-Some.row.now in
    let rest = chunks_rest c.next.new.self in
    let line = map (λ d. 48 + d) row in
    let size : length row ≡ min m (length all) = steps.1.1 ∙ ap (λ n. min n (length all)) before.columns in
    let added : c.push.new.self.items ≡ (text ++ line) ++ 10 ∷ [] = c.in_ok-push.ensures.items ∙ ap (λ (xs : List ℕ). xs ++ 10 ∷ []) c.in_ok-push_row.ensures in
    record {
      next = subst (λ n. 0 < n) (sym steps.0) before.next;
      finite = tt;
      columns = steps.0 ∙ before.columns;
      small = subst (All (λ d. d < 10)) (ap (drop (length row)) steps.1.0 ∙ drop_at row rest (length row) refl) (All-drop (λ d. d < 10) (length row) all before.small);
      printed = λ n whole.
          let left = before.printed n whole in
          let more = next_row m left.0 all row rest steps.1.0 size steps.1.2 left.1 in
          let behind = rows_text m more.0 rest in (
            more.0,
            more.1.size,
            ap (λ (xs : List ℕ). xs ++ behind) added ∙ append_assoc (text ++ line) (10 ∷ []) behind ∙ append_assoc text line (10 ∷ behind)
                ∙ ap (λ (xs : List ℕ). text ++ xs) (sym more.1.text) ∙ left.2,
          );
    }

pub returns : goal.returns
returns c = λ n whole.
    let left = c.loop-row.invariant.printed n whole in
    let none = no_row c.args.m left.0 (chunks_rest c.loop-row.row-iterator) c.requires.columns c.in-None.ensures.steps.1.0 left.1 in
    sym (append-nil c.loop-row.text.items) ∙ ap (λ (xs : List ℕ). c.loop-row.text.items ++ xs) (sym none) ∙ left.2
