use Rattle.std.proofs.Common.{arith}
use Rattle.mt_strength.proofs.PackedLemmas.{zeros_at}
use Rattle.mt_strength.proofs.packed_rows.lanes_of.Goals as goal

pub loop-k-init : goal.loop-k-init
loop-k-init c = record {
  size = omega arith;
  done = λ n l. absurd (omega arith);
  rest = λ n l. zeros_at n;
}
