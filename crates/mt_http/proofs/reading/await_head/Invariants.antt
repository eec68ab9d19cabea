use Rattle.std.proofs.Common.{◌≡◌, ◌≤◌, ◌-◌, length}
use Rattle.mt_http.specs.declared.TheConstants.{HEAD_LIMIT}
use Rattle.mt_http.specs.Buffers.{Moves}
use Rattle.mt_http.specs.Bytes.{blank_len}
use Rattle.mt_http.specs.Places.{LacksHeadIn}
use Rattle.mt_http.proofs.reading.await_head.Given as goal

abbrev pub invariant-turns : goal.invariant-turns
invariant-turns g l = record {
  moves : Moves l.initial.buffer.bytes (g.S.Source.left l.initial.source) l.buffer.bytes (g.S.Source.left l.source);
  start : l.start ≤ blank_len l.buffer.bytes;
  seen : l.seen ≤ length l.buffer.bytes;
  limit : l.seen ≤ HEAD_LIMIT;
  none : LacksHeadIn l.seen l.buffer.bytes;
  spent : l.buffer.spent ≡ l.initial.buffer.spent;
  rest : g.S.Source.rest l.source ≡ g.S.Source.rest l.initial.source;
  later : g.S.Source.faults l.initial.source ≤ g.S.Source.faults l.source;
}

-- each turn takes a byte
abbrev pub decreases-turns : goal.decreases-turns
decreases-turns g l = HEAD_LIMIT - length l.buffer.bytes
