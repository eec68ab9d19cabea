use Rattle.std.proofs.Common.{ℕ, List, ap, ◌∙◌, subst}
use Rattle.mt_linear.specs.Field.{add_of}
use Rattle.mt_linear.proofs.FieldLaws.{neg_lt}
use Rattle.mt_strength.specs.Lanes.{lane_of, digit_of, digit_at, HasLanes}
use Rattle.mt_strength.proofs.ByteLemmas.{multiple_lanes, IsCleared-by}
use Rattle.mt_strength.proofs.pivots.cleared.Goals as goal

pub mul-requires-clause-right : goal.mul-requires-clause-right
mul-requires-clause-right c = rw c.requires.pivot.clears (neg_lt c.args.order _)

pub added-requires-clause-y : goal.added-requires-clause-y
added-requires-clause-y c = rw c.read_row.ensures (multiple_lanes c.args.order c.args.v c.args.all.now c.mul.result c.requires.pivot.multiples c.mul.ensures.element)

pub returns : goal.returns
returns c = IsCleared-by c.args.order c.args.v c.args.place c.args.factor c.args.all.now c.args.row c.added.result c.digit.result c.mul.result
    c.requires.pivot c.requires.row (c.digit.ensures.value ∙ ap (digit_of c.args.order) c.requires.lane) c.mul.ensures.value
    (subst (λ (m : List ℕ). HasLanes c.added.result (λ k. lane_of c.args.order (add_of c.args.order (digit_at c.args.order c.args.row k) (digit_at c.args.order m k)))) c.read_row.ensures c.added.ensures)
