use Rattle.test_parts.proofs.scripts.compare.tell_new.Given as goal

-- the table's four ledgers are those of the blanks
abbrev pub ghosts-tell_alone : goal.ghosts-tell_alone
ghosts-tell_alone g = record { names = g.blanks }
