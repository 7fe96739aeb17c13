use Rattle.test_support.proofs.client.serve_client.Given as goal

-- the table's four ledgers are those of the blanks
abbrev pub ghosts-serve_over : goal.ghosts-serve_over
ghosts-serve_over g a = record { names = a.blanks }
