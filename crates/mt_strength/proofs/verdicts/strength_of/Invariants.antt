use Rattle.mt_system.specs.Rows.{Strength}
use Rattle.mt_strength.proofs.verdicts.strength_of.Given as goal

abbrev pub invariant-loop-passed : goal.invariant-loop-passed
invariant-loop-passed l = Strength l.system l.passed
