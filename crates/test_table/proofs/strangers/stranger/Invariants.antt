use Rattle.test_table.proofs.strangers.stranger.Given as goal

abbrev pub ghosts-stranger_on : goal.ghosts-stranger_on
ghosts-stranger_on a = record { names = a.blanks }
