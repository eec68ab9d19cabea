use Rattle.std.proofs.Common.{◌∙◌}
use Rattle.mint.proofs.serving.staffed.Goals as goal

pub serve-end-requires-clause-publication : goal.serve-end-requires-clause-publication
serve-end-requires-clause-publication g c κs within = λ k d l. c.requires.publication k d l ∙ c.requires.named
