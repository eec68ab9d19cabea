use Rattle.mt_strength.proofs.tests.a_counted_check_that_holds.Given as goal

abbrev pub ghosts-counted : goal.ghosts-counted
ghosts-counted g a = record { name = a.blank.name; parts = a.blank.parts }
