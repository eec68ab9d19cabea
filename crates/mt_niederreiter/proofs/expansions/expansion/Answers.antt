use Rattle.std.proofs.Common.{rules, ◌≡◌, ℕ, ◌-◌, ◌+◌, ◌<◌, ◌==◌, ◌++◌, [], ◌∷◌, cond, min, length, take, drop, slice_index, sym, ap, ◌∙◌, arith, subst}
use Rattle.std.proofs.lemmas.List.{length_push}
use Rattle.mt_linear.specs.Field.{mul_of, add_of}
use Rattle.mt_linear.specs.Linear.{AllElements}
use Rattle.mt_poly.specs.Polynomials.{sum_to}
use Rattle.mt_poly.proofs.ListLemmas.{push_elements}
use Rattle.mt_niederreiter.proofs.TermLemmas.{part, Begins, begins_push, expands_from, sum_of_slices}
use Rattle.mt_niederreiter.proofs.expansions.expansion.Goals as goal

pub loop-l-preserved : goal.loop-l-preserved
loop-l-preserved c =
    let o = c.args.order in
    let D = c.args.divisor.now in
    let n : ℕ = length D - 1 in
    let l : ℕ = c.loop-l.l in
    let w = c.loop-l.terms.items in
    let x = c.add.result in
    let s = c.sum_of_products-sum.result in
    let a : ℕ = cond (l == n - 1 - c.args.u) 1 0 in
    let j : ℕ = c.if-l-degree.known in
    let known : c.if-l-degree.known ≡ min l n = omega arith in
    let long : n < length D = omega (arith, c.requires.numerator) in
    let lead : slice_index D n ≡ 1 = c.requires.monic.1 in
    let sum : s ≡ sum_to o (min l n) (part o D n w l) =
    c.sum_of_products-sum.ensures.value
    ∙ ap (λ xs. sum_to o (length (take (n - (n - j)) (drop (n - j) D))) (λ k.
    mul_of o (slice_index (take (n - (n - j)) (drop (n - j) D)) k) (slice_index (take (l - (l - j)) (drop (l - j) xs)) k)))
    c.deref.ensures.value
    ∙ sum_of_slices o D n w l (n - (n - j)) (n - j) (l - (l - j)) (l - j) long c.loop-l.invariant.size (omega arith) (omega arith) (omega arith) (omega arith) in
    let value : x ≡ add_of o a c.neg.result = search rules in
    let pushed : c.push.new.self.items ≡ w ++ x ∷ [] = c.in_ok-push.ensures.items in
    record {
      size = ap length pushed ∙ length_push w x ∙ ap (λ k. k + 1) c.loop-l.invariant.size;
      elements = subst (AllElements o) (sym pushed) (push_elements o w x c.loop-l.invariant.elements c.add.ensures.element);
      begins = subst (Begins o D n c.args.u) (sym pushed)
          (begins_push o D n c.args.u w l s x lead c.loop-l.invariant.begins c.loop-l.invariant.size sum (value ∙ ap (add_of o a) c.neg.ensures.value) c.add.ensures.element);
    }

pub returns-clause-terms : goal.returns-clause-terms
returns-clause-terms c =
    let o = c.args.order in
    let D = c.args.divisor.now in
    let w = c.loop-l.terms.items in
    expands_from o D (length D - 1) c.args.u w c.loop-l.invariant.elements (omega arith) c.requires.numerator c.loop-l.invariant.begins
