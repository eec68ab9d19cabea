use Rattle.std.proofs.Common.{◌∙◌, arith, refl}
use Rattle.mt_server.specs.declared.connection.Next.TheVariants as next
use Rattle.mt_server.proofs.TurnLemmas.{looks_more}
use Rattle.mt_server.proofs.WireLemmas.{turned_told}
use Rattle.mt_server.proofs.connection.serve_connection.Goals as goal

pub turns-preserved : goal.turns-preserved
turns-preserved g c =
    let left = g.L.Source.left in
    let written = g.L.Sink.written in
    let tally = g.O.Office.tally in
    let looks = g.O.Office.looks in
    let first = c.args in
    let now = c.turns in
    let new = c.serve_next.new in
    let kept = c.in-Open.ensures in
    let room = kept.budget refl in
    record {
      publication = kept.publication.0 ∙ now.invariant.publication;
      office = kept.publication.1 ∙ now.invariant.office;
      served = turned_told (left first.link.now) (left now.link) (left new.link) now.buffer new.buffer next.Open now.number
          first.viewer.now now.viewer new.viewer (written first.link.now) (written now.link) (written new.link)
          (tally first.office.now) (tally now.office) (tally new.office) now.invariant.served now.invariant.limit kept.turn;
      limit = omega (arith, now.invariant.limit, room);
      looks = looks_more (looks first.office.now) (looks now.office) (looks new.office) first.viewer.now.missed now.viewer.missed new.viewer.missed
          now.invariant.looks kept.looks;
      reads = omega (arith, now.invariant.reads, kept.read_fault.0);
      writes = omega (arith, now.invariant.writes, kept.write_fault.0);
    }

pub returns-in-Ended-clause-served : goal.returns-in-Ended-clause-served
returns-in-Ended-clause-served g c =
    let left = g.L.Source.left in
    let written = g.L.Sink.written in
    let tally = g.O.Office.tally in
    let first = c.args in
    let now = c.turns in
    let new = c.serve_next.new in
    turned_told (left first.link.now) (left now.link) (left new.link) now.buffer new.buffer (next.Ended c.in-Ended.ended) now.number
    first.viewer.now now.viewer new.viewer (written first.link.now) (written now.link) (written new.link)
    (tally first.office.now) (tally now.office) (tally new.office) now.invariant.served now.invariant.limit c.in-Ended.ensures.turn
