use Rattle.test_faults.proofs.runs.files_and_folders_alone.Given as goal

-- the table's four ledgers are those of the blanks
abbrev pub ghosts-compare : goal.ghosts-compare
ghosts-compare g a = record { names = a.blanks }
