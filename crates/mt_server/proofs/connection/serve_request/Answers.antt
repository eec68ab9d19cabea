use Rattle.mt_server.proofs.WireLemmas.{memory_sent}
use Rattle.mt_server.proofs.connection.serve_request.Goals as goal

pub returns-in-Err-clause-sent : goal.returns-in-Err-clause-sent
returns-in-Err-clause-sent g c =
    let a = c.in-Err.ensures.answered in (
      a.0,
      a.1,
      a.2,
      memory_sent c.write_response-in-Err.result c.closes-close.result _ c.args.number (g.L.Sink.written c.args.link.now) (g.L.Sink.written c.write_response-in-Err.new.link)
          c.memory_response.result.now a.0 c.write_response-in-Err.ensures.sent c.memory_response.ensures c.closes-close.ensures a.3,
    )
