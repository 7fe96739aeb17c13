use Rattle.test_threads.proofs.turns.image_of.Given as goal

abbrev pub ghosts-work_anew : goal.ghosts-work_anew
ghosts-work_anew g a = record { names = a.blanks }
