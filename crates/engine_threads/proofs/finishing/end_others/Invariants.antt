use Rattle.std.specs.Prelude.{◌≡◌, ◌+◌, ◌≤◌, None, vec_len, vec_capacity}
use Rattle.std.specs.List.{All}
use Rattle.std.specs.Vec.Iter.{into_iter_len}
use Rattle.engine_threads.proofs.finishing.end_others.Given as goal

abbrev pub invariant-loop-role : goal.invariant-loop-role
invariant-loop-role g l = record {
  none : All (λ e. e.last_job.value ≡ None) l.ends.items;
  len : vec_len l.ends + into_iter_len l.role-iterator ≡ vec_len l.fn.roles;
  room : vec_len l.fn.roles ≤ vec_capacity l.ends;
}
