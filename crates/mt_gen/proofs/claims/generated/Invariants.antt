use Rattle.std.proofs.Common.{◌≡◌, length, map}
use Rattle.mt_system.specs.Statements.{statement_of}
use Rattle.mt_gen.specs.Generated.{AreGenerated}
use Rattle.mt_gen.proofs.ListLemmas.{end_of}
use Rattle.mt_gen.proofs.claims.generated.Given as goal

-- the claims so far, and the state behind them
abbrev pub invariant-loop-before : goal.invariant-loop-before
invariant-loop-before l = record {
  size : length l.claims.items ≡ l.before;
  claims : AreGenerated l.seed l.bounds 1 l.seed (map statement_of l.claims.items);
  stream : l.stream ≡ end_of l.seed (map statement_of l.claims.items);
}
