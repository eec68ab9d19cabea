use Rattle.mt_cells.proofs.instance_tests.conclusions.Given as goal

abbrev pub ghosts-concluded : goal.ghosts-concluded
ghosts-concluded g a = record { name = a.blank.name; parts = a.blank.parts }
