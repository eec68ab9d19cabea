use Rattle.mt_import.proofs.EventLemmas.{event_header}
use Rattle.mt_import.proofs.events.read_event.Goals as goal

pub claim-requires-clause-columns : goal.claim-requires-clause-columns
claim-requires-clause-columns c = (c.requires c.in-Import.text.header (event_header c.args.bytes.now c.in-Ok.event c.in-Import.text c.in-Import.is c.in-Ok.ensures)).0

pub claim-requires-clause-coordinates : goal.claim-requires-clause-coordinates
claim-requires-clause-coordinates c = (c.requires c.in-Import.text.header (event_header c.args.bytes.now c.in-Ok.event c.in-Import.text c.in-Import.is c.in-Ok.ensures)).1

pub claim-requires-clause-depth : goal.claim-requires-clause-depth
claim-requires-clause-depth c = (c.requires c.in-Import.text.header (event_header c.args.bytes.now c.in-Ok.event c.in-Import.text c.in-Import.is c.in-Ok.ensures)).2
