use Rattle.std.proofs.Common.{map, string_bytes, arith}
use Rattle.mint.proofs.WordLemmas.{same_count}
use Rattle.mint.proofs.words.read_seed_and_count.Goals as goal

pub returns-then-count-eq0 : goal.returns-then-count-eq0
returns-then-count-eq0 c = λ seed count is.
    let same = same_count (map string_bytes c.args.words.now) c.in_ok-seed.seed c.in_ok-seed.count seed count c.in_ok-seed.ensures is in
    absurd (omega (arith, same, is.1, is.2))
