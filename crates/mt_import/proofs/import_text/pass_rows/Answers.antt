use Rattle.std.proofs.Common.{◌∷◌, [], ◌++◌, arith}
use Rattle.mt_import.proofs.ReadingLemmas.{takes_more}
use Rattle.mt_import.proofs.import_text.pass_rows.Goals as goal

pub loop-passed-preserved : goal.loop-passed-preserved
loop-passed-preserved c =
    let taken = c.loop-passed.invariant.taken in
    let next = c.in_ok-behind.ensures in
    let row = c.in_ok-behind.field-0-0.now in
    record {
      shorter = omega (arith, next.0, c.loop-passed.invariant.shorter);
      taken = (taken.0 ++ row ∷ [], takes_more c.args.header.now c.loop-passed.passed c.args.text.now c.loop-passed.rest.now c.in_ok-behind.behind.now row taken.0 taken.1 next.1 next.2);
    }
