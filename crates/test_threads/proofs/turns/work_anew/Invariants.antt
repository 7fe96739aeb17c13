use Rattle.terms.specs.declared.limits.Counts.TheVariants.{Bounded}
use Rattle.test_threads.proofs.turns.work_anew.Given as goal

-- the history that was just opened
abbrev pub ghosts-work : goal.ghosts-work
ghosts-work g a = record { history = a.opened.table.shared.table_id; limits = record { nodes = 65536; postings = 1048576; counts = Bounded; flights = 64; files = 4096 }; threads = 2 }
