use Rattle.std.proofs.Common.{ap, ◌∙◌}
use Rattle.std.proofs.lemmas.Result.{IfOk-weaker}
use Rattle.serde_json.specs.Written.{compact_text, has_float}
use Rattle.mt_answer.proofs.BodyLemmas.{tree_whole}
use Rattle.mt_answer.proofs.bodies.tree_body.Goals as goal

pub returns : goal.returns
returns c =
    let same = c.in_ok-tree_value.ensures in
    IfOk-weaker c.to_vec.result _ _ (λ body e. e (ap has_float same ∙ tree_whole c.args.nodes.now c.args.version) ∙ ap compact_text same) c.to_vec.ensures.text
