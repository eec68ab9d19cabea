use Rattle.std.proofs.Common.{rules, arith, [], ◌∙◌, ◌≡◌}
use Rattle.mt_table.specs.Fixed.{IsFixed}
use Rattle.mt_table.specs.Shapes.{sum_of}
use Rattle.mt_table.proofs.FixedLemmas.{start_stands, fixed}
use Rattle.mt_table.proofs.SinceLemmas.{sinces_none}
use Rattle.mt_table.proofs.StartLemmas.{start_propagated}
use Rattle.mt_table.proofs.StepLemmas.{start_spent, score_is}
use Rattle.mt_table.proofs.table.Table.new.Goals as goal

pub propagate-requires : goal.propagate-requires
propagate-requires g c = start_propagated c.in_ok-work.work c.in_ok-work.ensures.start

pub invariant_of-result : goal.invariant_of-result
invariant_of-result g c =
    let v = c.in_ok-work.work in
    let w = c.propagate.new.self in (
      rw c.in_ok-imports.ensures (fixed w [] (start_stands v w [] c.in_ok-work.ensures.start c.propagate.ensures.propagates)),
      search rules,
      search rules,
      rw c.in_ok-imports.ensures (sinces_none w.bounds w.rules c.in_ok-changes.changes.sinces.items _ c.in_ok-changes.ensures.sinces),
    )

pub returns-clause-few : goal.returns-clause-few
returns-clause-few g c =
    let v = c.in_ok-work.work in
    let w = c.propagate.new.self in
    let done = c.propagate.ensures in
    let bounds : w.bounds ≡ c.args.bounds = done.propagates.bounds ∙ c.in_ok-work.ensures.bounds in
    let same : w.rules ≡ c.args.rules = done.propagates.rules ∙ c.in_ok-work.ensures.rules in
    let f : IsFixed w [] = fixed w [] (start_stands v w [] c.in_ok-work.ensures.start done.propagates) in (
      sum_of w.values.items,
      rw (bounds, same) at (score_is w [] f),
      omega (arith, done.counted, rw bounds at (start_spent v w c.propagate.result c.in_ok-work.ensures.start done.propagates.bounds done.pays)),
    )
