use Rattle.mt_http.specs.Buffers.{ahead}
use Rattle.mt_http.proofs.ItemLemmas.{first_told}
use Rattle.mt_http.proofs.reading.read_request.Goals as goal

pub returns-clause-first : goal.returns-clause-first
returns-clause-first g c =
    first_told c.read_next.result (ahead c.args.buffer.now) c.read_next.new.buffer _ _ c.read_next.ensures.moves.keeps c.read_next.ensures.got
