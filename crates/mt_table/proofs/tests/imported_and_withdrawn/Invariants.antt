use Rattle.mt_table.proofs.tests.imported_and_withdrawn.Given as goal

abbrev pub ghosts-table_of : goal.ghosts-table_of
ghosts-table_of g a = record { name = a.blank.name; parts = a.blank.parts }

abbrev pub ghosts-applied : goal.ghosts-applied
ghosts-applied g a = record { name = a.blank.name; parts = a.blank.parts }
