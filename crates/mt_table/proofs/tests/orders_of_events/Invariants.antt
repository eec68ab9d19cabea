use Rattle.mt_table.proofs.tests.orders_of_events.Given as goal

abbrev pub ghosts-table_over : goal.ghosts-table_over
ghosts-table_over g a = record { name = a.blank.name; parts = a.blank.parts }
