use Rattle.std.proofs.Common.{◌∙◌}
use Rattle.std.proofs.lemmas.Result.{IfOk-weaker}
use Rattle.mt_answer.proofs.BodyLemmas.{spelled_is}
use Rattle.mt_answer.proofs.bodies.value_body.Goals as goal

pub returns : goal.returns
returns c =
    IfOk-weaker c.value_spelled.result _ _ (λ text e. e ∙ spelled_is c.args.ask.now c.args.k _ c.args.since c.args.version c.saturating_sub-t.ensures) c.value_spelled.ensures
