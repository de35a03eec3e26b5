use Rattle.sessions.proofs.run.run_told.Given as goal

abbrev pub ghosts-run_listed : goal.ghosts-run_listed
ghosts-run_listed g a = record { list = a.jobs.now }
