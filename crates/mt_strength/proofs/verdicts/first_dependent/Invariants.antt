use Rattle.mt_strength.proofs.verdicts.first_dependent.Given as goal

abbrev pub ghosts-first_in_turn : goal.ghosts-first_in_turn
ghosts-first_in_turn a = record { name = a.blank.name; parts = a.blank.parts }
