use Rattle.std.proofs.Common.{◌≡◌, ◌≢◌, ◌<◌, ◌≤◌, inl, inr, ℕ, ◌+◌, ◌-◌, List, length, get_or, take, sym, ap, ap₂, ◌∙◌, subst, arith, length-take}
use Rattle.std.proofs.lemmas.Bool.{cases_lt}
use Rattle.std.proofs.lemmas.List.{get_or_read, with_items_is}
use Rattle.mt_linear.specs.declared.order.Order.{Order}
use Rattle.mt_linear.specs.Field.{add_of, mul_of, neg_of, inv_of}
use Rattle.mt_poly.specs.Polynomials.{IsPolynomial}
use Rattle.mt_poly.proofs.ListLemmas.{take_trimmed, polynomial_trimmed}
use Rattle.mt_poly.proofs.GreatestLemmas.{cancels}
use Rattle.mt_poly.proofs.CoprimalityLemmas.{same_divisors}
use Rattle.mt_poly.proofs.coprimality.reduce_once.Goals as goal

sum : (c : goal.After-truncate) → c.deref.result.now ≡ c.add_multiple_at.new.target
sum c = c.deref.ensures.value ∙ with_items_is c.args.rest.now c.add_multiple_at.new.target (omega (arith, c.deref_mut.ensures.len))

-- the sum without the zeros at its end
left : (c : goal.After-truncate) → c.truncate.new.self.items ≡ take c.trimmed_length.result c.add_multiple_at.new.target
left c =
    c.truncate.ensures.items
    ∙ ap (take c.trimmed_length.result) (with_items_is c.args.rest.now c.add_multiple_at.new.target (omega (arith, c.deref_mut.ensures.len)))

zeros : (c : goal.After-truncate) → (i : ℕ) → c.trimmed_length.result ≤ i → get_or c.add_multiple_at.new.target i 0 ≡ 0
zeros c i l = ap (λ (xs : List ℕ). get_or xs i 0) (sym (sum c)) ∙ c.trimmed_length.ensures.zeros i l

lead : (c : goal.After-truncate) → 0 < c.trimmed_length.result → get_or c.add_multiple_at.new.target (c.trimmed_length.result - 1) 0 ≢ 0
lead c l z = c.trimmed_length.ensures.lead l (ap (λ (xs : List ℕ). get_or xs (c.trimmed_length.result - 1) 0) (sum c) ∙ z)

pub returns-clause-polynomial : goal.returns-clause-polynomial
returns-clause-polynomial c =
    subst (IsPolynomial c.args.order) (sym (left c))
    (polynomial_trimmed c.args.order c.trimmed_length.result c.add_multiple_at.new.target c.add_multiple_at.ensures.elements (zeros c) (lead c)
    (omega (arith, ap length (sum c), c.trimmed_length.ensures.within)))

pub returns-clause-same : goal.returns-clause-same
returns-clause-same c =
    let o : Order = c.args.order in
    let xs = c.args.rest.now.items in
    let b = c.args.divisor.now in
    let t = c.add_multiple_at.new.target in
    let k : ℕ = c.len-last.result - 1 - (length b - 1) in
    let read : (i : ℕ) → get_or c.truncate.new.self.items i 0 ≡ get_or t i 0 =
    λ i. ap (λ (ys : List ℕ). get_or ys i 0) (left c) ∙ take_trimmed c.trimmed_length.result t (zeros c) i in
    same_divisors o k xs c.truncate.new.self.items b c.neg.result c.requires.polynomial.elements (returns-clause-polynomial c).elements
    (λ i l. read i ∙ c.add_multiple_at.ensures.before i l ∙ ap (λ (ys : List ℕ). get_or ys i 0) c.deref_mut.ensures.value)
    (λ i.
    read (k + i)
    ∙ c.add_multiple_at.ensures.sum i
    ∙ ap (λ (ys : List ℕ). add_of o (get_or ys (k + i) 0) (mul_of o c.neg.result (get_or b i 0))) c.deref_mut.ensures.value)

pub returns-clause-shorter : goal.returns-clause-shorter
returns-clause-shorter c =
    let o : Order = c.args.order in
    let xs = c.args.rest.now.items in
    let b = c.args.divisor.now in
    let t = c.add_multiple_at.new.target in
    let n : ℕ = c.len-last.result - 1 in
    let d : ℕ = length b - 1 in
    let size : length t ≡ length xs = omega (arith, ap length c.deref_mut.ensures.value) in
    let factor : c.neg.result ≡ neg_of o (mul_of o (get_or xs n 0) (inv_of o (get_or b d 0))) =
    c.neg.ensures.value
    ∙ ap (neg_of o) (c.mul-factor.ensures.value
    ∙ ap₂ (mul_of o) (get_or_read xs n c.index.result.now (omega arith) c.index.ensures 0) c.inv.ensures.value) in
    let last : get_or t n 0 ≡ 0 =
    ap (λ i. get_or t i 0) {x = n} {y = n - d + d} (omega arith)
    ∙ c.add_multiple_at.ensures.sum d
    ∙ ap₂ (λ (ys : List ℕ) f. add_of o (get_or ys (n - d + d) 0) (mul_of o f (get_or b d 0))) c.deref_mut.ensures.value factor
    ∙ ap (λ i. add_of o (get_or xs i 0) (mul_of o (neg_of o (mul_of o (get_or xs n 0) (inv_of o (get_or b d 0)))) (get_or b d 0))) {x = n - d + d} {y = n} (omega arith)
    ∙ cancels o (get_or xs n 0) (get_or b d 0) (c.requires.divisor.elements d) (c.requires.divisor.lead c.requires.not_zero) (c.requires.polynomial.elements n) in
    let cut : length c.truncate.new.self.items ≤ c.trimmed_length.result = omega (arith, ap length (left c), length-take c.trimmed_length.result t) in
    elim (cases_lt c.trimmed_length.result (length xs)) [
      | inl l ↦ omega arith
      | inr l ↦
          absurd (lead c (omega arith) (ap (λ i. get_or t i 0) {x = c.trimmed_length.result - 1} {y = n} (omega (arith, c.trimmed_length.ensures.within, ap length (sum c))) ∙ last))
    ]
