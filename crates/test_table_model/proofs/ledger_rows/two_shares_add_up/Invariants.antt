use Rattle.test_table_model.proofs.ledger_rows.two_shares_add_up.Given as goal

abbrev pub ghosts-gathered : goal.ghosts-gathered
ghosts-gathered g a = record { names = a.blanks }
