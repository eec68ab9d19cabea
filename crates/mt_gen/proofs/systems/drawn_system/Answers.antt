use Rattle.std.proofs.Common.{◌≡◌, ℕ, ◌+◌, ◌*◌, ◌%◌, ◌∙◌, ap, sym, arith}
use Rattle.mt_linear.specs.Field.{number_of}
use Rattle.mt_gen.specs.Generated.{state_after, word_at}
use Rattle.mt_gen.proofs.StreamLemmas.{state_after-more, word_at-more}
use Rattle.mt_gen.proofs.systems.drawn_system.Goals as goal

pub returns-clause-system : goal.returns-clause-system
returns-clause-system c =
    let x = c.args.stream.now in
    let second : c.below-m.new.stream ≡ state_after x 2 = c.below-m.ensures.stream ∙ ap (λ y. state_after y 1) c.below.ensures.stream ∙ state_after-more x 1 1 in
    let third : c.below-s.new.stream ≡ state_after x 3 = c.below-s.ensures.stream ∙ ap (λ y. state_after y 1) second ∙ state_after-more x 2 1 in
    let fourth : c.below-depth.new.stream ≡ state_after x 4 = c.below-depth.ensures.stream ∙ ap (λ y. state_after y 1) third ∙ state_after-more x 3 1 in
    let for_m : word_at c.below.new.stream 0 ≡ word_at x 1 = ap (λ y. word_at y 0) c.below.ensures.stream ∙ word_at-more x 1 0 in
    let for_s : word_at c.below-m.new.stream 0 ≡ word_at x 2 = ap (λ y. word_at y 0) second ∙ word_at-more x 2 0 in
    let for_depth : word_at c.below-s.new.stream 0 ≡ word_at x 3 = ap (λ y. word_at y 0) third ∙ word_at-more x 3 0 in
    rw c.of_elements.ensures record {
      order = c.order_at-order.ensures ∙ c.below.ensures.value;
      columns = ap (λ r. 1 + r) (c.below-m.ensures.value ∙ ap (λ w. w % c.min.result) for_m ∙ ap (λ l. word_at x 1 % l) c.min.ensures);
      coordinates = ap (λ r. 1 + r) (c.below-s.ensures.value ∙ ap (λ w. w % c.min-2.result) for_s ∙ ap (λ l. word_at x 2 % l) c.min-2.ensures);
      depth = ap (λ r. 1 + r) (c.below-depth.ensures.value ∙ ap (λ w. w % (1 + c.below-m.result)) for_depth);
      size = c.in_ok-digits.ensures.size;
      digits = λ n l.
          c.in_ok-digits.ensures.digits n (omega (arith, l, c.in_ok-digits.ensures.size))
          ∙ ap (λ w. w % number_of c.order_at-order.result) (ap (λ y. word_at y n) fourth ∙ word_at-more x 4 n);
    }

pub returns-clause-stream : goal.returns-clause-stream
returns-clause-stream c =
    let x = c.args.stream.now in
    let second : c.below-m.new.stream ≡ state_after x 2 = c.below-m.ensures.stream ∙ ap (λ y. state_after y 1) c.below.ensures.stream ∙ state_after-more x 1 1 in
    let third : c.below-s.new.stream ≡ state_after x 3 = c.below-s.ensures.stream ∙ ap (λ y. state_after y 1) second ∙ state_after-more x 2 1 in
    let fourth : c.below-depth.new.stream ≡ state_after x 4 = c.below-depth.ensures.stream ∙ ap (λ y. state_after y 1) third ∙ state_after-more x 3 1 in
    let n : ℕ = (1 + c.below-s.result) * (1 + c.below-depth.result) * (1 + c.below-m.result) in
    rw c.of_elements.ensures (c.in_ok-digits.ensures.stream ∙ ap (λ y. state_after y n) fourth ∙ state_after-more x 4 n
    ∙ ap (λ l. state_after x (4 + l)) (sym c.in_ok-digits.ensures.size))
