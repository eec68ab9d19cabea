use Rattle.mt_answer.proofs.tests.answers_without_imports.Given as goal

abbrev pub ghosts-table_of : goal.ghosts-table_of
ghosts-table_of g a = record { name = a.blank.name; parts = a.blank.parts }
