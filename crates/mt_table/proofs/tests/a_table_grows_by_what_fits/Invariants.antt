use Rattle.mt_table.proofs.tests.a_table_grows_by_what_fits.Given as goal

abbrev pub ghosts-table_of : goal.ghosts-table_of
ghosts-table_of g a = record { name = a.blank.name; parts = a.blank.parts }
