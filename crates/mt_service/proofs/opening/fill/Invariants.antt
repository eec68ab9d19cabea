use Rattle.std.proofs.Common.{◌≡◌, [], take}
use Rattle.mt_service.specs.Records.{AreAccepted}
use Rattle.mt_service.proofs.opening.fill.Given as goal

abbrev pub invariant-loop-i : goal.invariant-loop-i
invariant-loop-i l = record {
  bounds : l.service.bounds ≡ l.fn.service.bounds;
  rules : l.service.rules ≡ l.fn.service.rules;
  accepted : AreAccepted l.fn.service.bounds [] (take l.i l.records) l.service.events;
}
