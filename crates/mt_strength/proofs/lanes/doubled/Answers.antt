use Rattle.std.proofs.Common.{◌+◌, ◌%◌, get_or, bit_xor, replicate}
use Rattle.std.specs.Simd.Lanes.{zip2}
use Rattle.mt_strength.proofs.LaneLemmas.{HasLanes-self, HasLanes-zip2, HasLanes-min, HasLanes-splat}
use Rattle.mt_strength.proofs.lanes.doubled.Goals as goal

pub returns : goal.returns
returns c =
    let v = c.args.v in
    let self = HasLanes-self v c.fits-v.0 in
    let twice = HasLanes-zip2 (λ a b. (a + b) % 256) v v (λ k. get_or v k 0) (λ k. get_or v k 0) self self in
    HasLanes-min (zip2 (λ a b. (a + b) % 256) v v) (zip2 bit_xor (zip2 (λ a b. (a + b) % 256) v v) (replicate 32 c.args.modulus)) _ _ twice
    (HasLanes-zip2 bit_xor (zip2 (λ a b. (a + b) % 256) v v) (replicate 32 c.args.modulus) _ (λ k. c.args.modulus) twice (HasLanes-splat c.args.modulus))
