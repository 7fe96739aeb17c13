use Rattle.terms.specs.declared.limits.Counts.TheVariants.{Bounded}
use Rattle.test_threads.proofs.writes.write_anew.Given as goal

-- the history that was just opened
abbrev pub ghosts-write : goal.ghosts-write
ghosts-write g a = record { history = a.opened.table.shared.table_id; limits = record { nodes = 65536; postings = 1048576; counts = Bounded; flights = 64; files = 4096 }; threads = 2 }
