use Rattle.std.proofs.Common.{ℕ, ◌<◌, get_or}
use Rattle.mt_poly.specs.declared.polynomials.Poly.{Poly}
use Rattle.mt_poly.specs.Polynomials.{IsCoprime}
use Rattle.mt_poly.proofs.coprime_polynomials.may_follow.Given as goal

abbrev pub invariant-loop-poly : goal.invariant-loop-poly
invariant-loop-poly l = (k : ℕ) (d : Poly) → k < l.poly-index → IsCoprime l.fn.order (get_or l.kept k d).coefficients l.candidate.coefficients
