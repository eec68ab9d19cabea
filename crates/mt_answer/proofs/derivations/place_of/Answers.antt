use Rattle.std.proofs.Common.{arith}
use Rattle.mt_answer.proofs.PlaceLemmas.{place_low, found_at, not_missed}
use Rattle.mt_answer.proofs.derivations.place_of.Goals as goal

pub overflow_cast-result : goal.overflow_cast-result
overflow_cast-result c =
    let numbers = c.args.numbers.now in
    let at = found_at numbers c.args.number c.in-Ok.place c.requires.ascending c.in-Ok.ensures.position in
    omega (arith, place_low numbers c.requires.ascending c.in-Ok.place at.0, at.1, c.ranges.number.fits)

pub unreachable-requires : goal.unreachable-requires
unreachable-requires c = not_missed c.args.numbers.now c.args.number c.in-Err.field-0 c.requires.ascending c.requires.there c.in-Err.ensures.position
