use Rattle.std.proofs.Common.{map, string_bytes, arith}
use Rattle.mint.proofs.WordLemmas.{same_counts}
use Rattle.mint.proofs.words.read_port_and_counts.Goals as goal

pub returns-then-port-eq0 : goal.returns-then-port-eq0
returns-then-port-eq0 c = λ port workers connections is.
    let read = c.in_ok-port in
    let same = same_counts (map string_bytes c.args.words.now) read.port read.workers read.connections port workers connections read.ensures is in
    absurd (omega (arith, same.0, is.0, is.1))

pub returns-then-workers-eq0 : goal.returns-then-workers-eq0
returns-then-workers-eq0 c = λ port workers connections is.
    let read = c.in_ok-port in
    let same = same_counts (map string_bytes c.args.words.now) read.port read.workers read.connections port workers connections read.ensures is in
    absurd (omega (arith, same.1, is.2, is.3))

pub returns-then-connections-eq0 : goal.returns-then-connections-eq0
returns-then-connections-eq0 c = λ port workers connections is.
    let read = c.in_ok-port in
    let same = same_counts (map string_bytes c.args.words.now) read.port read.workers read.connections port workers connections read.ensures is in
    absurd (omega (arith, same.2, is.4, is.5))
