use Rattle.mt_strength.proofs.ByteLemmas.{row_put, row_before}
use Rattle.mt_strength.proofs.byte_rows.put_row.Goals as goal

pub returns-clause-done : goal.returns-clause-done
returns-clause-done c = row_put c.args.rows.now c.args.v c.args.j c.fits-v.0 c.requires

pub returns-clause-before : goal.returns-clause-before
returns-clause-before c = λ i l. row_before c.args.rows.now c.args.v c.args.j i c.requires l
