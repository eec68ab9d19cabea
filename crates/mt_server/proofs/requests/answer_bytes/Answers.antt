use Rattle.mt_http.specs.Reading.{request_at}
use Rattle.mt_server.specs.Turns.{drafted}
use Rattle.mt_server.proofs.RequestLemmas.{answered_status, bytes_answered}
use Rattle.mt_server.proofs.requests.answer_bytes.Goals as goal

pub bytes-requires : goal.bytes-requires
bytes-requires g c =
    answered_status c.args.viewer.now (request_at c.args.buffer.now.bytes c.args.wire) (drafted c.in-Ok.draft) c.answer_request.new.viewer c.in-Ok.ensures.answered

pub returns-in-Ok-clause-answered : goal.returns-in-Ok-clause-answered
returns-in-Ok-clause-answered g c =
    bytes_answered c.bytes.result (λ b. b.items) c.args.viewer.now (request_at c.args.buffer.now.bytes c.args.wire) (drafted c.in-Ok.draft) c.answer_request.new.viewer
    c.args.close _ _ c.in-Ok.ensures.answered c.in-Ok.ensures.counted c.bytes.ensures
