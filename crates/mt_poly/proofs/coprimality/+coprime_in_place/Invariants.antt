use Rattle.std.proofs.Common.{length}
use Rattle.mt_poly.proofs.coprimality.+coprime_in_place.Given as goal

abbrev pub decreases-coprime_in_place : goal.decreases-coprime_in_place
decreases-coprime_in_place l = length l.divisor.now.items
