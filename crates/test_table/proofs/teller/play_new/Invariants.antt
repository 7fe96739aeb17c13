use Rattle.test_table.proofs.teller.play_new.Given as goal

abbrev pub ghosts-play_on : goal.ghosts-play_on
ghosts-play_on g a = record { names = a.blanks }
