use Rattle.test_threads.proofs.writes.run.Given as goal

abbrev pub ghosts-write_anew : goal.ghosts-write_anew
ghosts-write_anew g a = record { names = a.blanks }
