use Rattle.std.proofs.Common.{map, string_bytes}
use Rattle.mint.proofs.ServingLemmas.{serving_asked}
use Rattle.mint.proofs.serving.read_serving.Goals as goal

pub returns-in_err-bounds : goal.returns-in_err-bounds
returns-in_err-bounds c = rw c.from_residual.ensures (λ b workers connections ask. c.in_err-bounds.ensures _ ask.1)

pub returns-in-Serve : goal.returns-in-Serve
returns-in-Serve c =
    let asked = c.in-Serve in serving_asked (map string_bytes c.args.words.now) _ _ asked.port asked.workers asked.connections c.in_ok-bounds.ensures asked.is
