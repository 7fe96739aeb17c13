use Rattle.test_table_model.proofs.both_runs.drive_both.Given as goal

abbrev pub ghosts-drive_on : goal.ghosts-drive_on
ghosts-drive_on g a = record { names = a.blanks }
