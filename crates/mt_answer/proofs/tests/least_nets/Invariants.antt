use Rattle.mt_answer.proofs.tests.least_nets.Given as goal

abbrev pub ghosts-table_of : goal.ghosts-table_of
ghosts-table_of g a = record { name = a.blank.name; parts = a.blank.parts }
