use Rattle.std.proofs.Common.{arith, ◌≡◌, ◌≢◌, ◌<◌, ◌∙◌, ◌++◌, ◌∷◌, [], length, get_or, sym, length-append}
use Rattle.std.proofs.lemmas.List.{get_or_default}
use Rattle.mt_cells.specs.Cells.{cells_of}
use Rattle.mt_table.proofs.MarkLemmas.{marked_skip, marked_step, others_push, others_skip}
use Rattle.mt_table.proofs.changes.Changes.mark.Goals as goal
use Rattle.mt_table.proofs.changes.Changes.mark.Goals.{then-index-values, else-index-values}

pub loop-n-preserved : goal.loop-n-preserved
loop-n-preserved c =
    let v = c.args.self.now in
    let n = c.loop-n.n in
    let old = c.loop-n.invariant in
    let below : n < length v.kept.items = omega (arith, v.kept_counted, c.loop-n-test.true, c.cells-n-end.ensures) in
    let counted : length c.loop-n.self.sinces.items ≡ cells_of v.bounds = rw old.0 at c.loop-n.self.counted in
    let low : n < length c.loop-n.self.sinces.items = omega (arith, counted, c.loop-n-test.true, c.cells-n-end.ensures) in
    let read : get_or v.kept.items n 0 ≡ c.index.result.now = get_or_default v.kept.items n 0 c.index.result.now below ∙ sym (rw old.1 at c.index.ensures) in
    elim c.if-index-values.branch [
      | then-index-values w ↦
          let apart : get_or v.kept.items n 0 ≢ get_or c.args.values.now n 0 = λ e. w.if-index-values.true (sym read ∙ e) in
          rw (w.self-is, w.count-is) (
            old.0,
            old.1,
            marked_step v.kept.items c.args.values.now v.sinces.items c.loop-n.self.sinces.items c.args.event n low apart old.2,
            (
              old.3.0 ++ w.at-cell.result ∷ [],
              others_push v.bounds v.kept.items c.args.values.now n w.at-cell.result old.3.0 (rw old.0 at w.at-cell.ensures.inside) (rw old.0 at w.at-cell.ensures.number) apart old.3.1,
              omega (arith, length-append old.3.0 (w.at-cell.result ∷ []), old.3.2),
            ),
            omega (arith, old.4),
          )
      | else-index-values w ↦
          let same : get_or v.kept.items n 0 ≡ get_or c.args.values.now n 0 = read ∙ w.if-index-values.false in
          rw (w.self-is, w.count-is) (
            old.0,
            old.1,
            marked_skip v.kept.items c.args.values.now v.sinces.items c.loop-n.self.sinces.items c.args.event n same old.2,
            (old.3.0, others_skip v.bounds v.kept.items c.args.values.now n old.3.0 same old.3.1, old.3.2),
            omega (arith, old.4),
          )
    ]
