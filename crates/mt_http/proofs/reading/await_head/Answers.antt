use Rattle.std.proofs.Common.{◌≡◌, ℕ, arith, refl, List, length, min, subst, ap, sym, ◌∙◌}
use Rattle.mt_http.specs.declared.TheConstants.{HEAD_LIMIT}
use Rattle.mt_http.specs.Bytes.{blank_len}
use Rattle.mt_http.specs.Places.{LacksHeadIn}
use Rattle.mt_http.proofs.BufferLemmas.{moves_none, moves_again}
use Rattle.mt_http.proofs.ItemLemmas.{none_at_first, none_then, blank_then}
use Rattle.mt_http.proofs.reading.await_head.Goals as goal

pub turns-init : goal.turns-init
turns-init g c = record {
  moves = moves_none c.args.buffer.now.bytes (g.S.Source.left c.args.source.now);
  start = omega arith;
  seen = omega arith;
  limit = omega arith;
  none = none_at_first c.args.buffer.now.bytes;
  spent = refl;
  rest = refl;
  later = omega arith;
}

pub turns-preserved : goal.turns-preserved
turns-preserved g c =
    let left = g.S.Source.left in
    let s = c.turns.buffer.bytes in
    let new = c.read_more.new.self.bytes in
    let e = c.held-held.ensures.bytes in
    let size = ap length e in
    let read = c.in-Ok.ensures.read in
    let all : min (length s) HEAD_LIMIT ≡ length s = omega (arith, size) in
    let none = subst (λ (k : ℕ). LacksHeadIn k s) all
    (subst (λ (x : List ℕ). LacksHeadIn (min (length x) HEAD_LIMIT) x) e c.in_default.ensures.seen) in
    record {
      moves = moves_again c.args.buffer.now.bytes (left c.args.source.now) s (left c.turns.source) new (left c.read_more.new.source)
          c.turns.invariant.moves read.moves;
      start = omega (arith, c.blank_len_from-start.ensures, ap blank_len e, blank_then s new read.moves.grows);
      seen = omega (arith, size, read.count);
      limit = omega arith;
      none = subst (λ (k : ℕ). LacksHeadIn k new) (sym size) (none_then s new read.moves.grows none);
      spent = c.in-Ok.ensures.spent ∙ c.turns.invariant.spent;
      rest = c.in-Ok.ensures.rest ∙ c.turns.invariant.rest;
      later = omega (arith, c.in-Ok.ensures.cause.later);
    }
