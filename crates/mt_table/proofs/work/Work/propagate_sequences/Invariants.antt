use Rattle.std.proofs.Common.{◌≡◌, ◌+◌}
use Rattle.mt_table.specs.Works.{AllPropagated, Rises, Pays}
use Rattle.mt_table.proofs.work.Work.propagate_sequences.Given as goal

abbrev pub invariant-loop-n : goal.invariant-loop-n
invariant-loop-n g l = AllPropagated l.self × Rises l.fn.self l.self × (l.steps ≡ l.fn.steps + l.count) × Pays l.fn.self l.self l.count
