use Rattle.mt_import.proofs.ReadingLemmas.{has_header}
use Rattle.mt_import.proofs.import_text.read_import.Goals as goal

pub claim-requires-clause-columns : goal.claim-requires-clause-columns
claim-requires-clause-columns c = (c.requires c.in-Ok.text.header (has_header c.args.bytes.now c.in-Ok.text.header c.in-Ok.text.note c.in-Ok.text.digits c.in-Ok.ensures)).0

pub claim-requires-clause-coordinates : goal.claim-requires-clause-coordinates
claim-requires-clause-coordinates c = (c.requires c.in-Ok.text.header (has_header c.args.bytes.now c.in-Ok.text.header c.in-Ok.text.note c.in-Ok.text.digits c.in-Ok.ensures)).1

pub claim-requires-clause-depth : goal.claim-requires-clause-depth
claim-requires-clause-depth c = (c.requires c.in-Ok.text.header (has_header c.args.bytes.now c.in-Ok.text.header c.in-Ok.text.note c.in-Ok.text.digits c.in-Ok.ensures)).2
