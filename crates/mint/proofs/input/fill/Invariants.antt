use Rattle.std.proofs.Common.{◌≡◌, ◌-◌, ◌≤◌, [], length, take}
use Rattle.mt_io.specs.Told.{Keeps}
use Rattle.mint.proofs.input.fill.Given as goal

abbrev pub invariant-loop-filled : goal.invariant-loop-filled
invariant-loop-filled g l = record {
  size : length l.buffer ≡ length l.initial.buffer;
  within : l.filled ≤ length l.buffer;
  taken : Keeps [] (g.R.Source.left l.initial.input) (take l.filled l.buffer) (g.R.Source.left l.input);
  later : g.R.Source.faults l.initial.input ≤ g.R.Source.faults l.input;
}

abbrev pub decreases-loop-filled : goal.decreases-loop-filled
decreases-loop-filled g l = length l.buffer - l.filled
