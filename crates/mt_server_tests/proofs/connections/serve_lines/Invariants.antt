use Rattle.std.proofs.Common.{◌≡◌}
use Rattle.mt_server_tests.proofs.connections.serve_lines.Given as goal

abbrev pub invariant-loop-line : goal.invariant-loop-line
invariant-loop-line g l = l.viewer.publication ≡ l.initial.viewer.publication
