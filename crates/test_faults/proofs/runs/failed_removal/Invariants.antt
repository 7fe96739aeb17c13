use Rattle.test_faults.proofs.runs.failed_removal.Given as goal

-- the table's four ledgers are those of the blanks
abbrev pub ghosts-serve_session : goal.ghosts-serve_session
ghosts-serve_session g a = record { names = a.blanks }
