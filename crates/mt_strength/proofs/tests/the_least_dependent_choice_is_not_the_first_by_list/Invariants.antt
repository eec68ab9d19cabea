use Rattle.mt_strength.proofs.tests.the_least_dependent_choice_is_not_the_first_by_list.Given as goal

abbrev pub ghosts-counted : goal.ghosts-counted
ghosts-counted g a = record { name = a.blank.name; parts = a.blank.parts }
