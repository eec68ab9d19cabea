use Rattle.mt_http.specs.Buffers.{ahead}
use Rattle.mt_server.proofs.WireLemmas.{request_told, refused_told}
use Rattle.mt_server.proofs.connection.serve_next.Goals as goal

pub returns-in-Request-clause-turn : goal.returns-in-Request-clause-turn
returns-in-Request-clause-turn g c =
    let left = g.L.Source.left in
    let written = g.L.Sink.written in
    let read = c.read_item.new in
    let served = c.serve_request.new in
    request_told (left c.args.link.now) (left read.link) (left served.link) (ahead c.args.buffer.now) c.serve_request.result c.args.number
    c.args.viewer.now served.viewer read.buffer (written c.args.link.now) (written read.link) (written served.link)
    (g.O.Office.tally c.args.office.now) (g.O.Office.tally served.office) c.in-Request.wire
    c.in-Request.ensures.item c.serve_request.ensures.left c.read_item.ensures.written c.serve_request.ensures.sent

pub returns-in-Refused-clause-turn : goal.returns-in-Refused-clause-turn
returns-in-Refused-clause-turn g c =
    let left = g.L.Source.left in
    let written = g.L.Sink.written in
    let read = c.read_item.new in
    let sent = c.write_response.new.link in
    refused_told (left c.args.link.now) (left read.link) (left sent) (ahead c.args.buffer.now) c.write_response.result c.args.number
    c.args.viewer.now read.buffer (written c.args.link.now) (written read.link) (written sent)
    (g.O.Office.tally c.args.office.now) c.in-Refused.refusal c.refusal_response.result.now
    c.in-Refused.ensures.item c.write_response.ensures.left c.read_item.ensures.written c.refusal_response.ensures c.write_response.ensures.sent
