use Rattle.mt_answer.proofs.tests.an_export.Given as goal

abbrev pub ghosts-table_of : goal.ghosts-table_of
ghosts-table_of g a = record { name = a.blank.name; parts = a.blank.parts }
