use Rattle.std.proofs.Common.{◌≡◌, ◌-◌, length, refl, sym, ◌∙◌, subst, arith}
use Rattle.std.proofs.lemmas.List.{take_at}
use Rattle.mt_system.specs.Rows.{rows_by, part_rows}
use Rattle.mt_strength.specs.Searches.{IsFirstByList}
use Rattle.mt_strength.proofs.CountedLemmas.{number_taken-whole}
use Rattle.mt_strength.proofs.LeastLemmas.{whole_true, whole_false}
use Rattle.mt_strength.proofs.counted_search.search_whole.Goals as goal

pub returns-then-branch-clause-searched : goal.returns-then-branch-clause-searched
returns-then-branch-clause-searched g c =
    let all = rw c.if-branch.true at c.in_ok-search.ensures.searched in
    whole_true c.args.system.now.order c.args.basis.now.vectors (part_rows c.args.system.now c.args.width) c.args.system.now.coordinates c.args.depth c.args.n
    c.requires.empty c.order-system.ensures.system.coordinates_from c.search.new.sizes all

pub returns-then-branch-clause-steps : goal.returns-then-branch-clause-steps
returns-then-branch-clause-steps g c =
    omega (arith, number_taken-whole (c.args.depth - 0) c.args.system.now.coordinates c.args.depth c.args.n refl c.order-system.ensures.system.coordinates_from, c.in_ok-search.ensures.steps)

pub returns-clause-searched : goal.returns-clause-searched
returns-clause-searched g c =
    let found = rw c.if-branch.false at c.in_ok-search.ensures.searched in
    let first = whole_false c.args.system.now.order c.args.basis.now.vectors (part_rows c.args.system.now c.args.width) c.args.system.now.coordinates c.args.depth c.args.n
    c.requires.empty c.order-system.ensures.system.coordinates_from c.search.new.sizes found in
    let size : length c.search.new.sizes ≡ c.in_ok-sizes.sizes.len = omega (arith, c.search.auto.sizes, c.deref_mut.ensures.len) in
    subst (IsFirstByList c.args.system.now.order c.args.system.now.coordinates c.args.depth c.args.n (rows_by (part_rows c.args.system.now c.args.width)))
    (sym (c.of.ensures ∙ take_at c.search.new.sizes _ c.in_ok-sizes.sizes.len size)) first
