use Rattle.mt_linear.proofs.tests.a_basis_grows_and_goes_back.Given as goal

abbrev pub ghosts-grown_and_cut : goal.ghosts-grown_and_cut
ghosts-grown_and_cut g a = record { name = a.blank.name; parts = a.blank.parts }
