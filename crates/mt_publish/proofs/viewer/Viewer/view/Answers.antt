use Rattle.std.proofs.Common.{rules, arith, ◌≡◌, ◌∙◌, List, [], ◌∷◌, length, max, map, sym, subst, Some}
use Rattle.std.specs.Arc.{arc_value}
use mathlib.Core.List.{IsPrefix}
use Rattle.atomic_table.specs.Table.{rest}
use Rattle.mt_publish.specs.Prefixes.{AllPrefixes}
use Rattle.mt_publish.specs.Stories.{story, story_entries}
use Rattle.mt_publish.specs.Prefixes.{longest}
use Rattle.mt_publish.specs.Rule.{list_of, learnt_of}
use Rattle.mt_publish.specs.declared.role.Role.TheVariants.{Seated, Reading}
use Rattle.mt_publish.proofs.StepLemmas.{leaving}
use Rattle.mt_publish.proofs.StoryLemmas.{one_base, seated, seated_entries, seated_learnt, entries_back, entries_begin, all_entries_begin}
use Rattle.mt_publish.proofs.viewer.Viewer.view.Goals as goal

pub exchange-requires : goal.exchange-requires
exchange-requires g c = let took = c.if-not-enter.ensures.entered in let i = c.self.inside.index in
    (search rules, (Some took.0, (λ k. (took.1 k).1) ∙ (λ k. (i, Some took.0) ∷ rest (sym took.1 k).1)))

pub store-requires : goal.store-requires
store-requires g c = let took = c.if-not-enter.ensures.entered in let i = c.self.inside.index in
    let ex1 = c.exchange.ensures in let ex2 = c.exchange-2.ensures in
    let same : took.0 ≡ c.unwrap-copy.result = search rules in
    let x = story (g.V.Growing.base (arc_value took.0)) (g.V.Growing.listed (arc_value took.0)) in
    let at : c.exchange.new.seat.me.0 ≡ Reading i x = (λ k. (ex1.3 k).0) ∙ (λ k. (took.1 k).0) in
    let bare : rest c.exchange.new.seat.me.1 ≡ [] = (λ k. rest (ex1.3 k).1) ∙ (λ k. rest (took.1 k).1) in
    (search rules, search rules, leaving _ _ _ _ _ x c.unwrap-copy.result (ex2.3 ∙ (λ k. (at k, (i, Some c.unwrap-copy.result) ∷ bare k))) (λ k. story (g.V.Growing.base (arc_value (sym same k))) (g.V.Growing.listed (arc_value (sym same k)))))

pub invariant_of-self-2 : goal.invariant_of-self-2
invariant_of-self-2 g c = let took = c.if-not-enter.ensures.entered in let i = c.self.inside.index in
    let ex1 = c.exchange.ensures in let ex2 = c.exchange-2.ensures in
    let same : took.0 ≡ c.unwrap-copy.result = search rules in
    let b = g.V.Growing.base (arc_value c.self.inside.board).shared.key.value in let xs = g.V.Growing.listed (arc_value took.0) in
    let x = story (g.V.Growing.base (arc_value took.0)) xs in
    let one = one_base b (g.V.Growing.base (arc_value took.0)) _ xs (subst (λ z. IsPrefix z x) (λ k. list_of (c.self.invariant.3 k).0) took.2) in
    let at : c.exchange-2.new.seat.me.0 ≡ Reading i x = (λ k. (ex2.3 k).0) ∙ ((λ k. (ex1.3 k).0) ∙ (λ k. (took.1 k).0)) in
    let back : c.store.new.seat.me.0 ≡ Seated i x [] = c.store.ensures.2.1 _ at in
    let here : c.store.new.seat.me ≡ (Seated i (story b xs) [], []) = (λ k. (back k, c.store.ensures.2.0 k)) ∙ (λ k. (Seated i (story (sym one k) xs) [], [])) in
    let n : c.entries-self-inside.result ≡ length xs = search rules in
    let most : length xs ≡ max (length xs) 0 = omega arith in (
      search rules,
      search rules,
      search rules,
      seated _ i b xs [] here,
      n ∙ (most ∙ (λ k. max (length (sym (seated_entries _ i b xs [] here) k)) (longest (map story_entries (sym (seated_learnt _ i b xs [] here) k))))),
    )

pub returns-clause-extends : goal.returns-clause-extends
returns-clause-extends g c = let took = c.if-not-enter.ensures.entered in let i = c.self.inside.index in
    let ex1 = c.exchange.ensures in let ex2 = c.exchange-2.ensures in
    let x = story (g.V.Growing.base (arc_value took.0)) (g.V.Growing.listed (arc_value took.0)) in
    let at : c.exchange-2.new.seat.me.0 ≡ Reading i x = (λ k. (ex2.3 k).0) ∙ ((λ k. (ex1.3 k).0) ∙ (λ k. (took.1 k).0)) in
    let back : c.store.new.seat.me.0 ≡ Seated i x [] = c.store.ensures.2.1 _ at in
    let e = g.row.E.Denot in (
      (
        subst (λ (z : List e × List e). IsPrefix z.0 z.1) (λ k. ((c.self.view_is k).seen, story_entries (list_of (sym back k)))) (entries_begin _ x took.2),
        subst (λ (z : List (List e) × List e). AllPrefixes z.1 z.0) (λ k. ((c.self.view_is k).learnt, story_entries (list_of (sym back k)))) (all_entries_begin x _ took.3),
      ),
      (λ k. map story_entries (learnt_of (back k))),
    )

pub returns-clause-read : goal.returns-clause-read
returns-clause-read g c = let took = c.if-not-enter.ensures.entered in let i = c.self.inside.index in
    let ex1 = c.exchange.ensures in let ex2 = c.exchange-2.ensures in
    let b = g.V.Growing.base (arc_value c.self.inside.board).shared.key.value in let xs = g.V.Growing.listed (arc_value took.0) in
    let x = story (g.V.Growing.base (arc_value took.0)) xs in
    let one = one_base b (g.V.Growing.base (arc_value took.0)) _ xs (subst (λ z. IsPrefix z x) (λ k. list_of (c.self.invariant.3 k).0) took.2) in
    let at : c.exchange-2.new.seat.me.0 ≡ Reading i x = (λ k. (ex2.3 k).0) ∙ ((λ k. (ex1.3 k).0) ∙ (λ k. (took.1 k).0)) in
    let back : c.store.new.seat.me.0 ≡ Seated i x [] = c.store.ensures.2.1 _ at in
    let seen : c.deref-2.result.now ≡ arc_value took.0 = search rules in (
      c.deref-2.result.now,
      (λ k. g.V.Growing.base (seen k)) ∙ sym one,
      (λ k. g.V.Growing.listed (seen k)) ∙ (sym (entries_back (g.V.Growing.base (arc_value took.0)) xs) ∙ (λ k. story_entries (list_of (sym back k)))),
      search rules,
    )
