use Rattle.mt_server_tests.proofs.fronts.serve_anew.Given as goal

abbrev pub ghosts-serve_late : goal.ghosts-serve_late
ghosts-serve_late g a = record { publication = a.desk.now.history.publication }
