use Rattle.mt_table.proofs.tests.an_import_that_one_viewer_learns.Given as goal

abbrev pub ghosts-table_of : goal.ghosts-table_of
ghosts-table_of g a = record { name = a.blank.name; parts = a.blank.parts }
