use Rattle.std.proofs.Common.{◌≡◌, ◌%◌, ◌∙◌, ap, sym, arith, below_more}
use Rattle.std.proofs.lemmas.List.{length_push, get_or_append_left, get_or_push}
use Rattle.mt_linear.specs.Field.{number_of}
use Rattle.mt_linear.proofs.FieldLaws.{number_pos}
use Rattle.mt_gen.specs.Generated.{state_after, word_at}
use Rattle.mt_gen.proofs.StreamLemmas.{state_after-none, state_after-more, word_at-more, push_elements}
use Rattle.mt_gen.proofs.systems.drawn_digits.Goals as goal

pub loop-place-init : goal.loop-place-init
loop-place-init c = rw c.in_ok-digits.ensures.items record {
  size = omega arith;
  elements = λ k. number_pos c.args.order;
  values = λ n l. absurd (omega (arith, l));
  stream = sym (state_after-none c.args.stream.now);
}

pub loop-place-preserved : goal.loop-place-preserved
loop-place-preserved c =
    let x = c.args.stream.now in
    let i = c.loop-place._place in
    let old = c.loop-place.digits.items in
    let word : word_at c.loop-place.stream 0 ≡ word_at x i =
    ap (λ y. word_at y 0) c.loop-place.invariant.stream ∙ word_at-more x i 0 ∙ ap (word_at x) (omega arith) in
    let digit : c.below.result ≡ word_at x i % number_of c.args.order =
    c.below.ensures.value ∙ ap (λ w. w % c.number.result) word ∙ ap (λ q. word_at x i % q) c.number.ensures in
    rw c.in_ok-push.ensures.items record {
      size = omega (arith, length_push old c.below.result, c.loop-place.invariant.size);
      elements = push_elements c.args.order old c.below.result c.loop-place.invariant.elements (omega (arith, c.below.ensures.below, c.number.ensures));
      values = below_more _ _
          (λ k h. get_or_append_left old _ 0 k (omega (arith, c.loop-place.invariant.size)) ∙ c.loop-place.invariant.values k h)
          (get_or_push old _ 0 i c.loop-place.invariant.size ∙ digit);
      stream = c.below.ensures.stream ∙ ap (λ y. state_after y 1) c.loop-place.invariant.stream ∙ state_after-more x i 1;
    }
