use Rattle.std.proofs.Common.{◌≡◌, ◌⊎◌, ◌+◌, ◌-◌, ◌^◌, ◌≤◌, ◌++◌}
use Rattle.mt_http.specs.Buffers.{ahead}
use Rattle.mt_io.specs.Told.{WhereTold}
use Rattle.mt_server.specs.declared.connection.TheConstants.{MOST_RESPONSES}
use Rattle.mt_server.specs.Turns.{HasServed}
use Rattle.mt_server.proofs.connection.serve_connection.Given as goal

-- the responses so far, and the stream that is left
abbrev pub invariant-turns : goal.invariant-turns
invariant-turns g l = record {
  publication : l.viewer.publication ≡ l.fn.viewer.publication;
  office : g.O.Office.publication l.office ≡ g.O.Office.publication l.fn.office;
  served : WhereTold (g.L.Source.left l.fn.link) (g.L.Source.left l.link)
      (λ stream left. HasServed l.number l.fn.viewer l.viewer stream (ahead l.buffer ++ left) (g.L.Sink.written l.fn.link)
      (g.L.Sink.written l.link) (g.O.Office.tally l.fn.office) (g.O.Office.tally l.office));
  limit : l.number ≤ MOST_RESPONSES;
  looks : (g.O.Office.looks l.office + l.fn.viewer.missed ≤ g.O.Office.looks l.fn.office + l.viewer.missed) ⊎ (2 ^ 64 - 1 ≤ l.viewer.missed);
  reads : g.L.Source.faults l.fn.link ≤ g.L.Source.faults l.link;
  writes : g.L.Sink.faults l.fn.link ≤ g.L.Sink.faults l.link;
}

-- there are only so many responses
abbrev pub decreases-turns : goal.decreases-turns
decreases-turns g l = MOST_RESPONSES - l.number
