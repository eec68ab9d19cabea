use Rattle.std.proofs.Common.{◌≡◌, ℕ, ◌+◌, List, [], ◌++◌, take, drop, arith, ap, ◌∙◌, subst, sym}
use Rattle.std.proofs.Math.Seq.{take-add}
use Rattle.mt_io.specs.declared.Failed.{Failed}
use Rattle.mt_io.specs.Told.{Keeps}
use Rattle.mint.proofs.InputLemmas.{Keeps-more}
use Rattle.mint.proofs.input.fill.Goals as goal

pub loop-filled-preserved : goal.loop-filled-preserved
loop-filled-preserved g c =
    let i = c.loop-filled.invariant in
    let left = g.R.Source.left in
    let n = c.in_ok-count.count in
    let old = c.loop-filled.buffer in
    let new = c.read_behind.new.buffer in
    let text : take (c.loop-filled.filled + n) new ≡ take c.loop-filled.filled old ++ take n (drop c.loop-filled.filled new) =
    take-add c.loop-filled.filled n new ∙ ap (λ (xs : List ℕ). xs ++ take n (drop c.loop-filled.filled new)) c.in_ok-count.ensures.prefix in
    record {
      size = c.read_behind.auto.buffer ∙ i.size;
      within = c.in_ok-count.ensures.within;
      taken = subst (λ (xs : List ℕ). Keeps [] (left c.args.input.now) xs (left c.read_behind.new.input)) (sym text)
          (Keeps-more Failed (left c.args.input.now) (left c.loop-filled.input) (left c.read_behind.new.input) (take c.loop-filled.filled old) n (drop c.loop-filled.filled new)
          i.taken c.in_ok-count.ensures.bytes);
      later = let a = i.later in let b = c.in_ok-count.ensures.cause.later in omega arith;
    }
