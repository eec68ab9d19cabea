use Rattle.mt_strength.proofs.dependence.uncounted_dependence.Given as goal

abbrev pub ghosts-dependence_by : goal.ghosts-dependence_by
ghosts-dependence_by a = record { name = a.blank.name; parts = a.blank.parts }
