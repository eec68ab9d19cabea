use Rattle.std.proofs.Common.{◌≡◌, ℕ, ◌+◌, ◌≤◌, List, map, ◌∙◌, subst, arith}
use Rattle.std.proofs.lemmas.Bool.{both_ways}
use Rattle.mt_linear.specs.declared.order.Order.{Order}
use Rattle.mt_linear.specs.Field.{number_of}
use Rattle.mt_poly.specs.declared.polynomials.Poly.{Poly}
use Rattle.mt_poly.specs.Polynomials.{IsPolynomial}
use Rattle.mt_poly.specs.CoprimeLists.{number_by, MayFollow}
use Rattle.mt_poly.proofs.MemberLemmas.{bound, bound_follows, walk_step}
use Rattle.mt_poly.proofs.coprime_polynomials.next_member.Goals as goal

pub returns-then-branch-clause-next : goal.returns-then-branch-clause-next
returns-then-branch-clause-next c = record {
  follows = c.in_ok-may_follow.ensures.answer.0 c.if-branch.true;
  least = c.loop-candidate.invariant.least;
}

more : (c : goal.In_ok-candidate)
    → number_by (number_of c.args.order) c.in_ok-candidate.candidate.coefficients ≡ number_by (number_of c.args.order) c.loop-candidate.candidate.coefficients + 1
more c =
    subst (λ q. number_by (number_of q) c.in_ok-candidate.candidate.coefficients ≡ number_by (number_of q) c.loop-candidate.candidate.coefficients + 1)
    c.loop-candidate.invariant.order c.in_ok-candidate.ensures.number

pub loop-candidate-preserved : goal.loop-candidate-preserved
loop-candidate-preserved c =
    let o : Order = c.args.order in
    let kept : List (List ℕ) = map (λ (x : Poly). x.coefficients) c.args.kept.now in
    let p = c.loop-candidate.candidate.coefficients in
    let order : c.loop-candidate.candidate.order ≡ o = c.loop-candidate.invariant.order in
    let polynomial : IsPolynomial o p = subst (λ q. IsPolynomial q p) order c.in_ok-may_follow.ensures.polynomial in
    let none : MayFollow o kept p → ⊥ = λ f. both_ways c.in_ok-may_follow.field-0 c.if-branch.false (c.in_ok-may_follow.ensures.answer.1 f) in
    record {
      order = c.in_ok-candidate.ensures.order ∙ order;
      least = λ r h. omega (arith, more c, walk_step o kept p polynomial none r h (c.loop-candidate.invariant.least r h));
    }

pub loop-candidate-smaller : goal.loop-candidate-smaller
loop-candidate-smaller c =
    let o : Order = c.args.order in
    let kept : List (List ℕ) = map (λ (x : Poly). x.coefficients) c.args.kept.now in
    let below : number_by (number_of o) c.in_ok-candidate.candidate.coefficients ≤ number_by (number_of o) (bound o kept) =
    (loop-candidate-preserved c).least (bound o kept) (bound_follows o kept c.requires.members) in
    omega (arith, more c)
