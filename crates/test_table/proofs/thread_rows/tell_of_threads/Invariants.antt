use Rattle.test_table.proofs.thread_rows.tell_of_threads.Given as goal

abbrev pub ghosts-forget_in_threads : goal.ghosts-forget_in_threads
ghosts-forget_in_threads g a = record { names = a.blanks }
