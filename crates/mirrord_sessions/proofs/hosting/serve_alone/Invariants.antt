use Rattle.mirrord_sessions.proofs.hosting.serve_alone.Given as goal

-- the table's four ledgers are those of the blanks
abbrev pub ghosts-serve_link : goal.ghosts-serve_link
ghosts-serve_link g a = record { names = a.blanks }
