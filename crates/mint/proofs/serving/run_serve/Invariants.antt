use Rattle.mint.proofs.serving.run_serve.Given as goal

abbrev pub ghosts-staffed : goal.ghosts-staffed
ghosts-staffed g a = record { publication = a.desk.history.publication }
