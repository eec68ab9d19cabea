use Rattle.std.proofs.Common.{ap, ◌∙◌}
use Rattle.std.proofs.lemmas.Result.{IfOk-weaker}
use Rattle.serde_json.specs.Written.{compact_text, has_float}
use Rattle.mt_service.proofs.BodyLemmas.{outcome_whole}
use Rattle.mt_service.proofs.outcomes.Outcome.json.Goals as goal

pub returns : goal.returns
returns c =
    let same = c.in_ok-value.ensures in
    IfOk-weaker c.to_vec.result _ _ (λ body e. e (ap has_float same ∙ outcome_whole c.args.self.now) ∙ ap compact_text same) c.to_vec.ensures.text
