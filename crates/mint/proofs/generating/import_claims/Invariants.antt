use Rattle.std.proofs.Common.{◌≡◌, ◌+◌, ◌≤◌}
use Rattle.mt_service.specs.Records.{IsKept, ArePut}
use Rattle.mt_service.specs.Telling.{AreTold}
use Rattle.mint.proofs.GeneratingLemmas.{HaveCome}
use Rattle.mint.proofs.generating.import_claims.Given as goal

abbrev pub invariant-loop-claim : goal.invariant-loop-claim
invariant-loop-claim g l = record {
  bounds : l.service.bounds ≡ l.fn.service.bounds;
  rules : l.service.rules ≡ l.fn.service.rules;
  come : HaveCome l.fn.service.bounds l.fn.service.rules l.fn.service.events l.claims l.claim-index l.service.events l.tally;
  counted : l.tally.accepted + l.tally.already + l.tally.refused ≤ l.claim-index;
  put : ArePut (g.K.Keeper.records l.fn.keeper) (g.K.Keeper.records l.keeper) l.fn.service.events l.service.events;
  kept : IsKept l.fn.service.bounds (g.K.Keeper.records l.keeper) l.service.events;
  told : AreTold l.fn.service.bounds l.fn.service.rules
      (λ b. (goal.Feed-dyn g (b.vtable, b.value)).told b.value)
      (λ b. (goal.Feed-dyn g (b.vtable, b.value)).failures b.value) l.fn.service.events l.service.events l.fn.feeds.items l.feeds.items;
  later : g.K.Keeper.faults l.fn.keeper ≤ g.K.Keeper.faults l.keeper;
}
