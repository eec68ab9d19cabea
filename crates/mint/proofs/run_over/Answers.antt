use Rattle.std.proofs.Common.{◌∙◌, sym}
use Rattle.mint.proofs.run_over.Goals as goal

pub run_serve-hall-requires-after_bounds : goal.run_serve-hall-requires-after_bounds
run_serve-hall-requires-after_bounds g c κs within = λ b workers connections ask.
    c.in-Ok.acceptors.ok.0 ∙ c.in-Ok.ensures.acceptors ∙ sym (c.in-Some.ensures.3 b workers connections ask)
