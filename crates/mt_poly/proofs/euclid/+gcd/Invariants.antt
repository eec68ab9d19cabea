use Rattle.std.proofs.Common.{length}
use Rattle.mt_poly.proofs.euclid.+gcd.Given as goal

abbrev pub decreases-gcd : goal.decreases-gcd
decreases-gcd l = length l.b.now.coefficients
