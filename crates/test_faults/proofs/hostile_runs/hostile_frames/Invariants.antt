use Rattle.test_faults.proofs.hostile_runs.hostile_frames.Given as goal

-- the table's four ledgers are those of the blanks
abbrev pub ghosts-run_row : goal.ghosts-run_row
ghosts-run_row g a = record { names = a.blanks }
