use Rattle.std.proofs.Common.{◌≡◌, ◌-◌, map}
use Rattle.mt_linear.specs.Field.{number_of}
use Rattle.mt_poly.specs.CoprimeLists.{number_by, IsLeast}
use Rattle.mt_poly.proofs.MemberLemmas.{bound}
use Rattle.mt_poly.proofs.coprime_polynomials.next_member.Given as goal

abbrev pub invariant-loop-candidate : goal.invariant-loop-candidate
invariant-loop-candidate l = record {
  order : l.candidate.order ≡ l.order;
  least : IsLeast l.order (map (λ p. p.coefficients) l.kept) l.candidate.coefficients;
}

-- the next member has at most this number
abbrev pub decreases-loop-candidate : goal.decreases-loop-candidate
decreases-loop-candidate l = number_by (number_of l.order) (bound l.order (map (λ p. p.coefficients) l.kept)) - number_by (number_of l.order) l.candidate.coefficients
