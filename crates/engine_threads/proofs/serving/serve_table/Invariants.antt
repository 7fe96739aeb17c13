use Rattle.std.specs.Prelude.{◌+◌, vec_len}
use Rattle.engine_threads.proofs.serving.serve_table.Given as goal

-- the history that was just opened
abbrev pub ghosts-serve_opened : goal.ghosts-serve_opened
ghosts-serve_opened g a = record { history = a.fresh.opened.table.shared.table_id; limits = a.opening.0; threads = vec_len a.given.calls + 1 }
