use Rattle.std.proofs.Common.{◌≡◌, ℕ, suc, ◌+◌, ◌-◌, ◌<◌, List, [], ◌∷◌, length, get_or, take, drop, replicate, sym, ap, ap₂, ◌∙◌, subst, arith, length-set, length-take, get_or-take}
use Rattle.std.proofs.lemmas.List.{drop_all, get_or_read, length-replicate, with_items_is}
use Rattle.mt_linear.specs.Field.{number_of, add_of, mul_of, neg_of, inv_of}
use Rattle.mt_linear.proofs.FieldLaws.{number_pos}
use Rattle.mt_linear.proofs.Writes.{set_below}
use Rattle.mt_poly.specs.Polynomials.{product_at}
use Rattle.mt_linear.specs.Linear.{AllElements}
use Rattle.mt_poly.proofs.ListLemmas.{zeros, take_elements}
use Rattle.mt_poly.proofs.GreatestLemmas.{division_start, division_step}
use Rattle.mt_poly.proofs.division.divide.Goals as goal

pub loop-i-init : goal.loop-i-init
loop-i-init c =
    let o = c.args.order in
    let n : ℕ = length c.args.a.now in
    let d : ℕ = length c.args.b.now - 1 in
    let quotient : c.in_ok-quotient.quotient.items ≡ replicate n 0 = c.in_ok-quotient.ensures.items_if_clones_equal (λ y e. e) in
    let rest : c.in_ok-rest.rest.items ≡ replicate d 0 = c.in_ok-rest.ensures.items_if_clones_equal (λ y e. e) in
    let none : drop n c.in_ok-quotient.quotient.items ≡ [] = drop_all n c.in_ok-quotient.quotient.items (omega (arith, ap length quotient, length-replicate {A = ℕ} n 0)) in
    record {
      within = omega arith;
      quotient_size = ap length quotient ∙ length-replicate {A = ℕ} n 0;
      rest_size = ap length rest ∙ length-replicate {A = ℕ} d 0;
      sum = λ k.
          ap (λ xs. get_or xs k 0) (drop_all n c.args.a.now (omega arith))
          ∙ division_start o c.args.b.now c.in_ok-rest.rest.items (λ i. ap (λ xs. get_or xs i 0) rest ∙ zeros d i) k
          ∙ ap (λ xs. add_of o (product_at o c.args.b.now xs k) (get_or c.in_ok-rest.rest.items k 0)) (sym none);
      quotient_in = λ k. subst (λ x. x < number_of o) (sym (ap (λ xs. get_or xs k 0) quotient ∙ zeros n k)) (number_pos o);
      rest_in = λ k. subst (λ x. x < number_of o) (sym (ap (λ xs. get_or xs k 0) rest ∙ zeros d k)) (number_pos o);
    }

pub loop-i-preserved : goal.loop-i-preserved
loop-i-preserved c =
    let o = c.args.order in
    let a = c.args.a.now in
    let b = c.args.b.now in
    let j : ℕ = c.loop-i.i - 1 in
    let d : ℕ = length b - 1 in
    let r = c.loop-i.rest.items in
    let qs = c.loop-i.quotient.items in
    let xs : List ℕ = get_or a j 0 ∷ r in
    let f = c.mul-factor.result in
    let size_r : length r ≡ d = c.loop-i.invariant.rest_size in
    let size_x : length xs ≡ suc d = ap suc size_r in
    let inserted : c.insert.new.self.items ≡ xs = c.in_ok-insert.ensures.items in
    let lent : c.deref_mut.result.now ≡ xs = c.deref_mut.ensures.value ∙ inserted in
    let cut : c.truncate.new.self.items ≡ take d c.add_multiple.new.target =
    c.truncate.ensures.items ∙ ap (take d) (with_items_is c.insert.new.self c.add_multiple.new.target (omega (arith, c.deref_mut.ensures.len))) in
    let size_t : length c.add_multiple.new.target ≡ suc d = omega (arith, ap length lent) in
    let size_s : length c.truncate.new.self.items ≡ d = omega (arith, ap length cut, length-take d c.add_multiple.new.target) in
    let factor : f ≡ mul_of o (get_or xs d 0) (inv_of o (get_or b d 0)) =
    c.mul-factor.ensures.value
    ∙ ap₂ (mul_of o)
    (get_or_read c.insert.new.self.items d c.index.result.now (omega (arith, ap length inserted)) c.index.ensures 0 ∙ ap (λ (ys : List ℕ). get_or ys d 0) inserted)
    c.inv-scale.ensures.value in
    let low : (k : ℕ) → k < d → get_or c.truncate.new.self.items k 0 ≡ add_of o (get_or xs k 0) (mul_of o (neg_of o f) (get_or b k 0)) =
    λ k l.
    ap (λ (ys : List ℕ). get_or ys k 0) cut ∙ get_or-take d c.add_multiple.new.target k 0 l
    ∙ c.add_multiple.ensures.sum k (omega (arith, ap length lent))
    ∙ ap₂ (λ (ys : List ℕ) n. add_of o (get_or ys k 0) (mul_of o n (get_or b k 0))) lent c.neg.ensures.value in
    let next : j + 1 ≡ c.loop-i.i = omega arith in
    record {
      within = omega arith;
      quotient_size = length-set qs j f ∙ c.loop-i.invariant.quotient_size;
      rest_size = size_s;
      sum = division_step o a b qs r c.truncate.new.self.items d j f c.requires.left c.requires.right c.loop-i.invariant.rest_in
          (omega arith) (omega arith) (omega arith) c.requires.lead size_r factor low size_s
          (rw next c.loop-i.invariant.sum);
      quotient_in = set_below qs j f (number_of o) c.loop-i.invariant.quotient_in c.mul-factor.ensures.element;
      rest_in = subst (AllElements o) (sym cut) (take_elements o d c.add_multiple.new.target c.add_multiple.ensures.elements);
    }
