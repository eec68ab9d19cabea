use Rattle.std.proofs.Common.{ap}
use Rattle.mt_server.proofs.ReplyLemmas.{answer_same}
use Rattle.mt_server.proofs.history.History.look.Goals as goal

pub returns-clause-answer : goal.returns-clause-answer
returns-clause-answer g c =
    let one = c.catch_up.ensures.publication in
    answer_same _ _ _ _ _ _ c.args.question.now c.args.at_least _ (ap (λ p. p.base.bounds) one) (ap (λ p. p.base.rules) one) c.catch_up.ensures.accepted c.in_ok-answer.ensures
