use Rattle.std.proofs.Common.{◌+◌, ◌-◌, ◌%◌, get_or, bit_and, ap}
use Rattle.std.specs.Simd.Lanes.{zip2}
use Rattle.mt_strength.specs.Lanes.{fold}
use Rattle.mt_strength.proofs.LaneLemmas.{HasLanes-zip2, HasLanes-as}
use Rattle.mt_strength.proofs.lanes.summed_nine.Goals as goal

pub returns : goal.returns
returns c =
    let s = c.summed-sums in
    let low = HasLanes-as c.low_three-low.result _ (λ k. bit_and (fold 24 ((get_or c.args.x k 0 + get_or c.args.y k 0) % 256)) 7) c.low_three-low.ensures (λ k l. ap (λ n. bit_and n 7) (s.ensures.each k l)) in
    let less = HasLanes-zip2 (λ a b. (a + (256 - b)) % 256) s.result c.low_three-low.result _ _ s.ensures low in
    let folded = HasLanes-as c.folded.result _ (λ k. fold 3 (bit_and (fold 24 ((get_or c.args.x k 0 + get_or c.args.y k 0) % 256)) 7)) c.folded.ensures (λ k l. ap (fold 3) (low.each k l)) in
    HasLanes-zip2 (λ a b. (a + b) % 256) (zip2 (λ a b. (a + (256 - b)) % 256) s.result c.low_three-low.result) c.folded.result _ _ less folded
