use Rattle.std.proofs.Common.{◌∙◌, refl, sym, arith, subst}
use Rattle.std.proofs.lemmas.Result.{err_from_is_err_and}
use Rattle.mt_system.specs.declared.claims.Claim.{Claim}
use Rattle.mt_system.specs.Statements.{statement_of}
use Rattle.mt_cells.specs.declared.bounds.Bounds.{Bounds}
use Rattle.mt_import.specs.Canonical.{canonical_text}
use Rattle.mt_service.specs.Records.{IsKept}
use Rattle.mt_service.specs.Steps.{IsStep}
use Rattle.mint.proofs.ChainLemmas.{left_same, left_put, told_none}
use Rattle.mint.proofs.GrowthLemmas.{put_both, told_both}
use Rattle.mint.proofs.GeneratingLemmas.{one_counted, none_come, one_comes, first_came, all_came}
use Rattle.mint.proofs.generating.import_claims.Goals as goal

pub loop-claim-init : goal.loop-claim-init
loop-claim-init g c =
    let s = c.args.service.now in
    let zero = c.none-tally.ensures in
    record {
      bounds = refl;
      rules = refl;
      come = none_come s.bounds s.rules s.events c.args.claims.now c.none-tally.result zero;
      counted = omega (arith, zero.accepted, zero.already, zero.refused);
      put = left_put _ _ s.events (left_same (g.K.Keeper.records c.args.keeper.now));
      kept = c.requires.kept;
      told = told_none s.bounds s.rules _ _ s.events c.args.feeds.now.items;
      later = omega arith;
    }

pub import_claim-requires : goal.import_claim-requires
import_claim-requires g c =
    let i = c.loop-claim.invariant in
    subst (λ (b : Bounds). IsKept b (g.K.Keeper.records c.loop-claim.keeper) c.loop-claim.service.events) (sym i.bounds) i.kept

pub loop-claim-preserved : goal.loop-claim-preserved
loop-claim-preserved g c =
    let s = c.args.service.now in
    let i = c.loop-claim.invariant in
    let did = c.in_ok-outcome.ensures in
    let counted = c.count.ensures in
    let o = c.in_ok-outcome.outcome in
    let L = c.loop-claim.service.events in
    let M = c.import_claim.new.service.events in
    let item = c.claim-item.result in
    record {
      bounds = did.bounds ∙ i.bounds;
      rules = did.rules ∙ i.rules;
      come = one_comes s.bounds s.rules s.events c.args.claims.now c.loop-claim.claim-index item L c.loop-claim.tally o M c.count.new.self
          (omega (arith, c.loop-claim-test.true)) i.come (subst (λ (x : Claim). IsStep s.bounds s.rules L (canonical_text (statement_of x)) o M) c.claim-item.is (rw (i.bounds, i.rules) at did.step)) did.going
          record { accepted = counted.accepted; already = counted.already; refused = counted.refused; tried = counted.tried };
      counted = omega (arith, i.counted, counted.accepted, counted.already, counted.refused, one_counted o);
      put = put_both s.bounds (g.K.Keeper.records c.args.keeper.now) (g.K.Keeper.records c.loop-claim.keeper) (g.K.Keeper.records c.import_claim.new.keeper)
          s.events L M i.kept i.put did.put;
      kept = subst (λ (b : Bounds). IsKept b (g.K.Keeper.records c.import_claim.new.keeper) M) (did.bounds ∙ i.bounds) did.kept;
      told = told_both s.bounds s.rules _ _ s.events L M c.args.feeds.now.items c.loop-claim.feeds.items c.import_claim.new.feeds.items i.told
          (rw (i.bounds, i.rules) at did.told);
      later = omega (arith, i.later, did.later);
    }

pub returns-in_err-outcome-clause-stopped : goal.returns-in_err-outcome-clause-stopped
returns-in_err-outcome-clause-stopped g c =
    let s = c.args.service.now in
    let i = c.loop-claim.invariant in
    let did = c.in_err-outcome.ensures in
    let p = err_from_is_err_and c.from_residual.result c.from_residual.ensures.1 in
    let came = first_came s.bounds s.rules s.events c.args.claims.now c.loop-claim.claim-index c.loop-claim.service.events c.import_claim.new.service.events
    c.loop-claim.tally did.stopped.1 i.come in
    rw (p.1, p.2) (did.stopped.0, came.0, came.1, came.2, came.3)

pub returns-in_err-outcome-clause-put : goal.returns-in_err-outcome-clause-put
returns-in_err-outcome-clause-put g c =
    let i = c.loop-claim.invariant in
    put_both c.args.service.now.bounds (g.K.Keeper.records c.args.keeper.now) (g.K.Keeper.records c.loop-claim.keeper) (g.K.Keeper.records c.import_claim.new.keeper)
    c.args.service.now.events c.loop-claim.service.events c.import_claim.new.service.events i.kept i.put c.in_err-outcome.ensures.put

pub returns-in_err-outcome-clause-told : goal.returns-in_err-outcome-clause-told
returns-in_err-outcome-clause-told g c =
    let s = c.args.service.now in
    let i = c.loop-claim.invariant in
    let did = c.in_err-outcome.ensures in
    told_both s.bounds s.rules _ _ s.events c.loop-claim.service.events c.import_claim.new.service.events c.args.feeds.now.items c.loop-claim.feeds.items
    c.import_claim.new.feeds.items i.told (rw (i.bounds, i.rules) at did.told)

pub returns-clause-imported : goal.returns-clause-imported
returns-clause-imported g c =
    let s = c.args.service.now in
    all_came s.bounds s.rules s.events c.args.claims.now c.loop-claim.claim-index c.loop-claim.service.events c.loop-claim.tally
    (omega (arith, c.loop-claim-test.false)) c.loop-claim.invariant.come
