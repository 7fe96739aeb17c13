use Rattle.std.specs.Prelude.{◌≡◌, ◌≤◌, replicate, vec_len, vec_capacity}
use Rattle.mirrord_sessions.proofs.worker_folders.open_each.Given as goal

abbrev pub invariant-loop-opened : goal.invariant-loop-opened
invariant-loop-opened g l = record { unused : l.folders.items ≡ replicate l.opened 0; len : vec_len l.folders ≡ l.opened; room : l.workers ≤ vec_capacity l.folders }
