-- Niederreiter's theorem.
use Rattle.std.specs.Prelude.{ℕ, ◌-◌, ◌≤◌, List, length, All, AllPairs}
use Rattle.mt_linear.specs.declared.order.Order.{Order}
use Rattle.mt_system.specs.Rows.{Matrices, SequenceStrength}
use Rattle.mt_poly.specs.Polynomials.{IsMember, IsCoprime}
use Rattle.mt_niederreiter.specs.Expansions.{IsNiederreiter, quality_of}

-- the matrices of pairwise coprime monic polynomials of degree 1 and more are those of a digital (t,s)-sequence up to m, where t is the sum of the degrees less 1
abbrev pub NiederreiterHolds : Order → Type 0
NiederreiterHolds o =
    (m : ℕ) (ps : List (List ℕ)) (a : Matrices) → 1 ≤ m → 1 ≤ length ps → All (IsMember o) ps → AllPairs (IsCoprime o) ps
    → IsNiederreiter o m ps a → SequenceStrength a (m - quality_of ps)
