use Rattle.engine_threads.proofs.serving.serve_threads.Given as goal

-- the book that was just made
abbrev pub ghosts-serve_table : goal.ghosts-serve_table
ghosts-serve_table g a = record { names = a.blanks }
