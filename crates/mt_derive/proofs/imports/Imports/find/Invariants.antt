use Rattle.std.proofs.Common.{◌≡◌, length, take}
use Rattle.mt_derive.specs.Events.{imports_of}
use Rattle.mt_derive.specs.Imports.{LacksName}
use Rattle.mt_derive.proofs.imports.Imports.find.Given as goal

-- the imports so far are counted, and none has the name
abbrev pub invariant-loop-event : goal.invariant-loop-event
invariant-loop-event l = record {
  count : l.count ≡ length (imports_of (take l.event-index l.event-items));
  lacks : LacksName (imports_of (take l.event-index l.event-items)) l.name;
}
