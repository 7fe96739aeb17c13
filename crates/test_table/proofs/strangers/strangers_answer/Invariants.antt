use Rattle.test_table.proofs.strangers.strangers_answer.Given as goal

abbrev pub ghosts-answer_on : goal.ghosts-answer_on
ghosts-answer_on a = record { names = a.blanks }
