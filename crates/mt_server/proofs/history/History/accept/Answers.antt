use Rattle.std.proofs.Common.{◌∙◌, ap, sym, refl}
use Rattle.mt_server.proofs.DeskLemmas.{told_same}
use Rattle.mt_server.proofs.history.History.accept.Goals as goal

pub returns-clause-told : goal.returns-clause-told
returns-clause-told g c = told_same _ _ _ _ _ _ _ _ _ _ _ _ (sym c.self.invariant.0 ∙ ap (λ h. h.publication.base.bounds) c.self.view_is)
    (sym c.self.invariant.1 ∙ ap (λ h. h.publication.base.rules) c.self.view_is) (ap (λ h. h.accepted) c.self.view_is) refl c.import.ensures.told
