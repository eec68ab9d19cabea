use Rattle.mt_server_tests.proofs.connections.serve_anew.Given as goal

abbrev pub ghosts-serve_lines : goal.ghosts-serve_lines
ghosts-serve_lines g a = record { publication = a.desk.history.publication }
