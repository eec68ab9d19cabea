use Rattle.std.proofs.Common.{◌+◌, ◌*◌, ◌/◌, ◌%◌, ◌^◌, get_or, ap₂, replicate}
use Rattle.std.specs.Simd.Lanes.{zip2}
use Rattle.mt_strength.specs.Lanes.{fold}
use Rattle.mt_strength.proofs.LaneLemmas.{HasLanes-self, HasLanes-zip2, HasLanes-splat, HasLanes-as}
use Rattle.mt_strength.proofs.lanes.turned_nine.Goals as goal

pub returns : goal.returns
returns c =
    let v = c.args.v in
    let high = HasLanes-zip2 (λ a b. a / 2 ^ b) v (replicate 32 3) (λ k. get_or v k 0) (λ k. 3) (HasLanes-self v c.fits-v.0) (HasLanes-splat 3) in
    let low = HasLanes-zip2 (λ a b. (a * 2 ^ b) % 256) c.low_three.result (replicate 32 3) _ (λ k. 3) c.low_three.ensures (HasLanes-splat 3) in
    let sum = HasLanes-as c.summed.result _ (λ k. fold 3 ((get_or v k 0 / 8 + get_or v k 0 / 8) % 256)) c.summed.ensures (λ k l. ap₂ (λ a b. fold 3 ((a + b) % 256)) (high.each k l) (high.each k l)) in
    HasLanes-zip2 (λ a b. (a + b) % 256) (zip2 (λ a b. (a * 2 ^ b) % 256) c.low_three.result (replicate 32 3)) c.summed.result _ _ low sum
