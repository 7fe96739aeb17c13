use Rattle.test_faults.proofs.hostile_runs.too_long_path.Given as goal

-- the table's four ledgers are those of the blanks
abbrev pub ghosts-serve_pieces : goal.ghosts-serve_pieces
ghosts-serve_pieces g a = record { names = a.blanks }
