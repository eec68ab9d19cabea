use Rattle.std.proofs.Common.{◌<◌, ◌∙◌, length, Err, arith, subst}
use Rattle.mt_service.specs.Filling.{Adopts}
use Rattle.mt_service.proofs.OpenLemmas.{accepted_next, fills_not}
use Rattle.mt_service.proofs.opening.fill.Goals as goal

pub loop-i-preserved : goal.loop-i-preserved
loop-i-preserved c = record {
  bounds = c.adopt.ensures.bounds ∙ c.loop-i.invariant.bounds;
  rules = c.adopt.ensures.rules ∙ c.loop-i.invariant.rules;
  accepted =
      let below : c.loop-i.i < length c.args.records.now = omega (arith, c.loop-i-test.true, c.len-i-end.ensures) in
      accepted_next (Unit {0}) c.args.service.now.bounds c.args.records.now c.loop-i.service.events c.adopt.new.self.events c.loop-i.i c.get.result.now c.in-Ok.field-0 below
      c.loop-i.invariant.accepted c.get.ensures (rw c.loop-i.invariant.bounds at c.in-Ok.ensures.adopts);
}

pub returns-in-Err-clause-fills : goal.returns-in-Err-clause-fills
returns-in-Err-clause-fills c =
    let below : c.loop-i.i < length c.args.records.now = omega (arith, c.loop-i-test.true, c.len-i-end.ensures) in
    rw c.refused_by.ensures (fills_not (Unit {0}) (Unit {0}) c.args.service.now.bounds c.args.records.now c.loop-i.service.events c.adopt.new.self.events c.loop-i.i c.get.result.now
    c.in-Err.bad c.requires.few below c.loop-i.invariant.accepted c.get.ensures
    (subst (λ b. Adopts {T = Unit {0}} b c.loop-i.service.events c.get.result.now c.adopt.new.self.events (Err c.in-Err.bad)) c.loop-i.invariant.bounds c.in-Err.ensures.adopts))
