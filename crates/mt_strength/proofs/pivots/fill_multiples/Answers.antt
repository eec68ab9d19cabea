use Rattle.std.proofs.Math.Nat.{mul-le-mul_left}
use Rattle.std.proofs.Common.{◌≡◌, ◌≢◌, ℕ, ◌+◌, ◌*◌, ◌<◌, ◌≤◌, sym, ◌∙◌, arith}
use Rattle.mt_linear.specs.Field.{number_of, prime_of}
use Rattle.mt_strength.proofs.MultipleLemmas.{prime_from, zero_multiple, lanes_of_multiple, next_power, next_sum, more_multiples, MultipleLanes}
use Rattle.mt_strength.proofs.pivots.fill_multiples.Goals as goal
use Rattle.mt_strength.proofs.pivots.fill_multiples.Goals.{then-low-prime, else-low-prime}

pub loop-passed-init : goal.loop-passed-init
loop-passed-init c =
    let two = prime_from c.args.order in
    let at_zero : (n : ℕ) → n ≤ 0 → n ≡ 0 = λ n l. omega arith in
    record {
      size = c.put_row.ensures.size;
      low = omega arith;
      at = omega arith;
      each = λ n l. rw (at_zero n l) (rw c.put_row.ensures.done (zero_multiple c.args.order c.args.v));
    }

pub times_x-next-requires-clause-lanes : goal.times_x-next-requires-clause-lanes
times_x-next-requires-clause-lanes c =
    let i = c.loop-passed.invariant in
    let two = prime_from c.args.order in
    let at = i.at in
    let full = c.if-low-prime.true in
    let is_prime = c.prime-prime.ensures in
    let m : c.loop-passed.high * 1 ≤ c.loop-passed.high * prime_of c.args.order = mul-le-mul_left c.loop-passed.high (let l : 1 ≤ prime_of c.args.order = omega arith in l) in
    rw c.read_row.ensures (lanes_of_multiple c.args.order c.args.v _ (c.loop-passed.high + 1) (i.each (c.loop-passed.high + 1) (omega arith)))

pub added-next-requires-clause-x : goal.added-next-requires-clause-x
added-next-requires-clause-x c =
    rw c.read_row-else-low-prime.ensures (lanes_of_multiple c.args.order c.args.v _ c.loop-passed.passed (c.loop-passed.invariant.each c.loop-passed.passed (omega arith)))

pub loop-passed-preserved : goal.loop-passed-preserved
loop-passed-preserved c =
    let i = c.loop-passed.invariant in
    let o = c.args.order in
    let v = c.args.v in
    let p = c.loop-passed.passed in
    let high = c.loop-passed.high in
    let low = c.loop-passed.low in
    let two = prime_from o in
    let at = i.at in
    let is_prime = c.prime-prime.ensures in
    let is_number = c.number.ensures in
    let test = c.loop-passed-test.true in
    let small : p + 1 < number_of o = omega arith in
    let put = c.put_row-in-loop-passed.ensures in
    let more = more_multiples o v c.if-low-prime.next c.loop-passed.all c.put_row-in-loop-passed.new.rows p put.before put.done i.each in
    elim c.if-low-prime.branch [
      | then-low-prime w ↦
          let full : low + 1 ≡ prime_of o = w.if-low-prime.true ∙ is_prime in
          let m : high * 1 ≤ high * prime_of o = mul-le-mul_left high (let l : 1 ≤ prime_of o = omega arith in l) in
          let high_is = w.high-is in
          let low_is = w.low-is in
          let r = w.read_row.result in
          let is_multiple : MultipleLanes o v r (high + 1) = rw w.read_row.ensures (i.each (high + 1) (omega arith)) in
          record {
            size = put.size ∙ i.size;
            low = rw low_is (omega arith);
            at = rw (high_is, low_is) (omega arith);
            each = more (rw w.next-is (next_power o v r w.times_x-next.result high low p is_multiple at full small w.times_x-next.ensures));
          }
      | else-low-prime w ↦
          let ne = w.if-low-prime.false in
          let apart : low + 1 ≢ prime_of o = λ e. ne (e ∙ sym is_prime) in
          let below = i.low in
          let high_is = w.high-is in
          let low_is = w.low-is in
          let r = w.read_row-else-low-prime.result in
          let is_multiple : MultipleLanes o v r p = rw w.read_row-else-low-prime.ensures (i.each p (omega arith)) in
          record {
            size = put.size ∙ i.size;
            low = rw low_is (omega arith);
            at = rw (high_is, low_is) (omega arith);
            each = more (rw w.next-is (next_sum o v r w.added-next.result high low p c.requires.lanes is_multiple at below apart small w.added-next.ensures));
          }
    ]
