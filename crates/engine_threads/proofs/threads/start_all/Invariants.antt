use Rattle.std.specs.Prelude.{◌≡◌, ◌+◌, ◌≤◌, vec_len, vec_capacity}
use Rattle.std.specs.Vec.Iter.{into_iter_len}
use Rattle.engine_threads.proofs.threads.start_all.Given as goal

abbrev pub invariant-loop-role : goal.invariant-loop-role
invariant-loop-role g l = record {
  len : vec_len l.started + into_iter_len l.role-iterator ≡ vec_len l.fn.roles;
  room : vec_len l.fn.roles ≤ vec_capacity l.started;
}
