use Rattle.mint.proofs.event_tests.an_import_and_its_withdrawal.Given as goal

abbrev pub ghosts-table_of : goal.ghosts-table_of
ghosts-table_of g a = record { name = a.blank.name; parts = a.blank.parts }

abbrev pub ghosts-apply : goal.ghosts-apply
ghosts-apply g a = record { name = a.blank.name; parts = a.blank.parts }
