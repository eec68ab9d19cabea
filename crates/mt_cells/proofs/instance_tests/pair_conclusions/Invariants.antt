use Rattle.mt_cells.proofs.instance_tests.pair_conclusions.Given as goal

abbrev pub ghosts-pair_concluded : goal.ghosts-pair_concluded
ghosts-pair_concluded g a = record { name = a.blank.name; parts = a.blank.parts }
