use Rattle.std.proofs.Common.{rules, ◌≡◌, ℕ, ◌∙◌, ap, sym, subst, refl, arith}
use Rattle.mt_io.specs.Faults.{Rose}
use Rattle.mt_server.proofs.DeskLemmas.{told_same, put_same, step_same, tell_none, unfinished}
use Rattle.mt_server.proofs.history.History.import.Goals as goal

-- nothing was accepted
pub returns-then-is_err-clause-told : goal.returns-then-is_err-clause-told
returns-then-is_err-clause-told g c = told_same _ _ _ _ _ _ c.args.self.now.accepted c.args.self.now.accepted c.args.self.now.accepted _ _ _ refl refl refl (sym c.catch_up.ensures.accepted)
    (tell_none _ _ c.args.self.now.publication.base.bounds c.args.self.now.publication.base.rules c.args.self.now.accepted _)

pub returns-in-Memory-clause-told : goal.returns-in-Memory-clause-told
returns-in-Memory-clause-told g c =
    let one = c.catch_up.ensures.publication in
    told_same _ _ _ _ _ _ _ _ _ _ _ _ (ap (λ p. p.base.bounds) one) (ap (λ p. p.base.rules) one) c.catch_up.ensures.accepted refl c.accept-outcome.ensures.told

pub returns-in-Ok : goal.returns-in-Ok
returns-in-Ok g c =
    let one = c.catch_up.ensures.publication in
    let two = c.accept-outcome.ensures.publication ∙ one in
    let before = ap g.K.Keeper.faults c.catch_up.ensures.keeper in
    let after = ap g.K.Keeper.faults c.catch_up-2.ensures.keeper in
    let list = sym c.catch_up-2.ensures.accepted in
    record {
      publication = c.catch_up-2.ensures.publication ∙ two;
      later = omega (arith, before, after, c.accept-outcome.ensures.later);
      fault = λ e. subst (λ (z : ℕ × ℕ). Rose z.0 z.1) (λ i. (before i, sym after i)) (c.accept-outcome.ensures.fault e);
      put = put_same _ _ _ _ _ _ _ _ (ap g.K.Keeper.records c.catch_up.ensures.keeper) (ap g.K.Keeper.records (sym c.catch_up-2.ensures.keeper)) c.catch_up.ensures.accepted list
          c.accept-outcome.ensures.put;
      told = told_same _ _ _ _ _ _ _ _ _ _ _ _ (ap (λ p. p.base.bounds) one) (ap (λ p. p.base.rules) one) c.catch_up.ensures.accepted list c.accept-outcome.ensures.told;
      front = ((c.in-Ok.ensures.front.0 ∙ ap (λ p. p.identity) two, c.in-Ok.ensures.front.1 ∙ list), c.in-Ok.ensures.published ∙ list);
      step = (
        search (rules, c.in_default.not-Memory),
        step_same _ _ _ _ _ _ _ _ c.args.text.now c.accept-outcome.result (ap (λ p. p.base.bounds) one) (ap (λ p. p.base.rules) one) c.catch_up.ensures.accepted list
            c.accept-outcome.ensures.step,
      );
      memory = tt;
    }

pub returns-in-Err : goal.returns-in-Err
returns-in-Err g c =
    let one = c.catch_up.ensures.publication in
    let two = c.accept-outcome.ensures.publication ∙ one in
    let before = ap g.K.Keeper.faults c.catch_up.ensures.keeper in
    let after = ap g.K.Keeper.faults c.catch_up-2.ensures.keeper in
    let list = sym c.catch_up-2.ensures.accepted in
    let published : c.catch_up.new.self.published ≡ c.args.self.now.accepted = search rules in
    record {
      publication = c.catch_up-2.ensures.publication ∙ two;
      later = omega (arith, before, after, c.accept-outcome.ensures.later);
      fault = λ e. absurd (cc e);
      put = put_same _ _ _ _ _ _ _ _ (ap g.K.Keeper.records c.catch_up.ensures.keeper) (ap g.K.Keeper.records (sym c.catch_up-2.ensures.keeper)) c.catch_up.ensures.accepted list
          c.accept-outcome.ensures.put;
      told = told_same _ _ _ _ _ _ _ _ _ _ _ _ (ap (λ p. p.base.bounds) one) (ap (λ p. p.base.rules) one) c.catch_up.ensures.accepted list c.accept-outcome.ensures.told;
      front = tt;
      step = tt;
      memory = (
        refl,
        unfinished c.args.self.now.publication.base.bounds c.args.self.now.publication.base.rules c.args.text.now c.accept-outcome.result c.args.self.now.accepted c.args.self.now.published
            c.catch_up-2.new.self.accepted c.catch_up-2.new.self.published (c.in-Err.ensures.published ∙ (c.accept-outcome.ensures.published ∙ published))
            (step_same _ _ _ _ _ _ _ _ c.args.text.now c.accept-outcome.result (ap (λ p. p.base.bounds) one) (ap (λ p. p.base.rules) one) c.catch_up.ensures.accepted list
            c.accept-outcome.ensures.step),
      );
    }
