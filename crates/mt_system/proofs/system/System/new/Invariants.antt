use Rattle.std.proofs.Common.{ℕ, ◌<◌, slice_index}
use Rattle.mt_linear.specs.Field.{number_of}
use Rattle.mt_system.proofs.system.System.new.Given as goal

abbrev pub invariant-loop-place : goal.invariant-loop-place
invariant-loop-place l = (k : ℕ) → k < l.place → slice_index l.digit-items k < number_of l.order
