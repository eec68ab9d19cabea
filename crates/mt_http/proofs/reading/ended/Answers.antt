use Rattle.std.proofs.Common.{arith, ap, length}
use Rattle.std.proofs.lemmas.List.Sums.{prefix_len-le-length}
use Rattle.mt_http.specs.Bytes.{is_line_end}
use Rattle.mt_http.proofs.reading.ended.Goals as goal

pub returns-else-start-held-clause-ended : goal.returns-else-start-held-clause-ended
returns-else-start-held-clause-ended c left none short lacks =
    let size = ap length c.held.ensures.bytes in (
      record {
        short = short;
        begun = omega (arith, size, c.requires, prefix_len-le-length is_line_end c.args.buffer.now.bytes);
        lacks = lacks;
      },
      none,
    )
