use Rattle.test_table_model.proofs.ledger_rows.a_share_that_was_left_is_missing.Given as goal

abbrev pub ghosts-gathered : goal.ghosts-gathered
ghosts-gathered g a = record { names = a.blanks }
